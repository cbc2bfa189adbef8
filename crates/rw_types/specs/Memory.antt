-- Bytes that are read into memory or written over it.
use Rattle.std.specs.Prelude.{◌≡◌, ℕ, List, ◌++◌, Bool, Option}
use Rattle.std.specs.Io.KnownBytes.{Consumes}

-- what a writer over reserved memory holds, how many more bytes it takes, and whether it was asked
-- to take more than that
pub record Reserved : Type 0 where
  pub bytes : List ℕ
  pub room : ℕ
  pub has_failed : Bool

-- What a reader has left loses some text at its front, if that is known, and what was there
-- before grows by this text.
pub record ReadsOnto (left_before left_after : Option (List ℕ)) (before after : List ℕ) : Type 0 where
  pub text : List ℕ
  pub appended : after ≡ before ++ text
  pub consumed : Consumes left_before left_after text
