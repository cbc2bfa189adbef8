-- The faults of hexadecimal text.
use Rattle.std.specs.Prelude.{◌≡◌, ℕ, List, Err}
use Rattle.rw_text.specs.HexText.{read_text}
use Rattle.rw_text.specs.declared.hex_fault.HexFault.{HexFault}
use Rattle.rw_text.specs.declared.hex_fault.HexFault.TheVariants.{OutOfMemory, Line}

-- a line at fault is the one that the text has; nothing is said about memory
abbrev pub IsFaultOfHex : List ℕ → HexFault → Type 0
IsFaultOfHex text OutOfMemory = Unit {0}
IsFaultOfHex text (Line line) = read_text text ≡ Err line
