-- Inner definitions beside those of Logging.antt: only invariants, private functions and
-- proofs use them.
use Rattle.std.specs.Prelude.{◌≡◌, ℕ, ◌≤◌, ◌*◌, ◌-◌, List, Bool, true, Option}
use Rattle.rw_wal_format.specs.Pieces.{page_size}
use Rattle.rw_text.specs.RecordLines.{lines}
use Rattle.rw_log_commands.specs.LogText.{longest_of, AreRecordsOfLines}
use Rattle.rw_text.specs.declared.tool_fault.ToolFault.{ToolFault}
use Rattle.rw_text.specs.declared.tool_fault.ToolFault.TheVariants.{OutOfMemory, Log, Line, SegmentFull, Device}
use Rattle.rw_log_commands.specs.Logging.{ReadsFaulty}

-- why no segment is made of what a reader has, which then has failed or not
abbrev pub StopsLog : ℕ → Option (List ℕ) → Option (List ℕ) → Bool → ToolFault → Type 0
StopsLog pages left_before left_after failed OutOfMemory = Unit {0}
StopsLog pages left_before left_after failed (Log f) = ⊥
StopsLog pages left_before left_after failed (Line number) = ReadsFaulty pages left_before left_after (Line number)
StopsLog pages left_before left_after failed SegmentFull = ReadsFaulty pages left_before left_after SegmentFull
StopsLog pages left_before left_after failed Device = failed ≡ true

-- log text for segments one after the other: each line is good, and each record has room in an
-- empty segment
pub record IsForSegments (pages : ℕ) (text : List ℕ) : Type 0 where
  pub records : List (List ℕ)
  pub good : AreRecordsOfLines (lines text) records
  pub fits : longest_of records ≤ pages * (page_size - 7)
