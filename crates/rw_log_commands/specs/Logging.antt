-- What a run of the command `log` does to its reader and its writer.
use Rattle.std.specs.Prelude.{◌≡◌, ◌<◌, ℕ, ◌≤◌, ◌*◌, ◌-◌, List, length, take, Bool, true, false, Option}
use Rattle.std.specs.Io.KnownBytes.{Appends, Consumes, IsAtEnd}
use Rattle.rw_wal_format.specs.Pieces.{page_size}
use Rattle.rw_text.specs.RecordLines.{lines}
use Rattle.rw_log_commands.specs.LogText.{longest_of, have_room, segment_of, AreRecordsOfLines, IsBadLine}
use Rattle.rw_log_commands.specs.Running.{output_of}
use Rattle.rw_text.specs.declared.tool_fault.ToolFault.{ToolFault}
use Rattle.rw_text.specs.declared.tool_fault.ToolFault.TheVariants.{OutOfMemory, Log, Line, SegmentFull, Device}

-- a fault of log text for one segment: its first bad line, or otherwise records that have no room
abbrev pub IsFaultOfLog : ℕ → List ℕ → ToolFault → Type 0
IsFaultOfLog pages text OutOfMemory = Unit {0}
IsFaultOfLog pages text (Log f) = ⊥
IsFaultOfLog pages text (Line number) = IsBadLine text number
IsFaultOfLog pages text SegmentFull = (recs : List (List ℕ)) × AreRecordsOfLines (lines text) recs × (have_room pages 0 recs ≡ false)
IsFaultOfLog pages text Device = ⊥

-- log text was read to the end, and its records have room in one segment
pub record ReadsRecords (pages : ℕ) (left_before left_after : Option (List ℕ)) (recs : List (List ℕ)) : Type 0 where
  pub text : List ℕ
  pub read : Consumes left_before left_after text
  pub ended : IsAtEnd left_after
  pub good : AreRecordsOfLines (lines text) recs
  pub fits : have_room pages 0 recs ≡ true

-- log text was read to the end, and it has this fault
pub record ReadsFaulty (pages : ℕ) (left_before left_after : Option (List ℕ)) (e : ToolFault) : Type 0 where
  pub text : List ℕ
  pub read : Consumes left_before left_after text
  pub ended : IsAtEnd left_after
  pub faulty : IsFaultOfLog pages text e

-- the segment of the records that were read was written
abbrev pub WritesLog : Bool → ℕ → Option (List ℕ) → Option (List ℕ) → Option (List ℕ) → Option (List ℕ) → Type 0
WritesLog hex pages left_before left_after before after =
    (recs : List (List ℕ)) × ReadsRecords pages left_before left_after recs × Appends before after (output_of hex (segment_of recs))

-- a prefix of it was written
abbrev pub WritesLogPart : Bool → ℕ → Option (List ℕ) → Option (List ℕ) → Option (List ℕ) → Option (List ℕ) → Type 0
WritesLogPart hex pages left_before left_after before after =
    (recs : List (List ℕ)) × ReadsRecords pages left_before left_after recs
    × ((n : ℕ) × (n ≤ length (output_of hex (segment_of recs))) × Appends before after (take n (output_of hex (segment_of recs))))

-- a fault of log text for segments one after the other: its first bad line, or otherwise a record
-- that has no room in an empty segment
abbrev pub IsFaultOfAny : ℕ → List ℕ → ToolFault → Type 0
IsFaultOfAny pages text (Line number) = IsBadLine text number
IsFaultOfAny pages text SegmentFull = (recs : List (List ℕ)) × AreRecordsOfLines (lines text) recs × (pages * (page_size - 7) < longest_of recs)
IsFaultOfAny pages text OutOfMemory = Unit {0}
IsFaultOfAny pages text e = ⊥

-- log text was read to the end, and it has this fault
pub record ReadsAnyFault (pages : ℕ) (left_before left_after : Option (List ℕ)) (e : ToolFault) : Type 0 where
  pub text : List ℕ
  pub read : Consumes left_before left_after text
  pub ended : IsAtEnd left_after
  pub faulty : IsFaultOfAny pages text e
