-- Inner definitions beside those of Runs.antt: only invariants, private functions and
-- proofs use them.
use Rattle.std.specs.Prelude.{◌≡◌, ℕ, List, Bool, true, Option}
use Rattle.rw_replay.specs.Scripts.{IsBadScriptLine}
use Rattle.rw_text.specs.declared.tool_fault.ToolFault.{ToolFault}
use Rattle.rw_text.specs.declared.tool_fault.ToolFault.TheVariants.{OutOfMemory, Log, Line, SegmentFull, Device}
use Rattle.rw_replay.specs.Runs.{ReadsBadLine}

-- a fault of a text is its first bad line; nothing is said about memory
abbrev pub IsFaultOfText : List ℕ → ToolFault → Type 0
IsFaultOfText text OutOfMemory = Unit {0}
IsFaultOfText text (Line number) = IsBadScriptLine text number
IsFaultOfText text _ = ⊥

-- why no script is read, by a reader that then has failed or not
abbrev pub StopsReading : Option (List ℕ) → Option (List ℕ) → Bool → ToolFault → Type 0
StopsReading left_before left_after failed OutOfMemory = Unit {0}
StopsReading left_before left_after failed (Log f) = ⊥
StopsReading left_before left_after failed (Line number) = ReadsBadLine left_before left_after number
StopsReading left_before left_after failed SegmentFull = ⊥
StopsReading left_before left_after failed Device = failed ≡ true
