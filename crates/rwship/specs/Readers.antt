-- Whether a reader of standard input has failed.
use Rattle.std.specs.Prelude.{Bool, false}
use Rattle.rwship.specs.declared.input.Reader.{Reader}
use Rattle.rwship.specs.declared.input.Reader.TheVariants.{Live, Held}

-- a text never fails
abbrev pub has_failed : Reader → Bool
has_failed (Live input) = input.1
has_failed (Held text) = false
