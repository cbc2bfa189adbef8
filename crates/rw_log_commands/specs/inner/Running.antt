-- Inner definitions beside those of Running.antt: only invariants, private functions and
-- proofs use them.
use Rattle.std.specs.Prelude.{◌≡◌, ℕ, List, Bool, true, Option}
use Rattle.rw_text.specs.declared.tool_fault.ToolFault.{ToolFault}
use Rattle.rw_text.specs.declared.tool_fault.ToolFault.TheVariants.{OutOfMemory, Log, Line, SegmentFull, Device}
use Rattle.rw_log_commands.specs.Running.{ReadsFault, ReadsLine}

-- why an input's segment is not read, by a reader that then has failed or not
abbrev pub StopsInput : (hex compresses : Bool) → Option (List ℕ) → Option (List ℕ) → Bool → ToolFault → Type 0
StopsInput hex compresses left_before left_after failed OutOfMemory = Unit {0}
StopsInput hex compresses left_before left_after failed (Log f) = ReadsFault hex compresses f left_before left_after
StopsInput hex compresses left_before left_after failed (Line line) = ReadsLine hex line left_before left_after
StopsInput hex compresses left_before left_after failed SegmentFull = ⊥
StopsInput hex compresses left_before left_after failed Device = failed ≡ true
