-- Inner definitions beside those of LogText.antt: only invariants, private functions and
-- proofs use them.
use Rattle.std.specs.Prelude.{◌≡◌, ℕ, ◌<◌, List, [], ◌∷◌, ◌++◌, length, true, false}
use Rattle.rw_text.specs.RecordLines.{lines}
use Rattle.rw_text.specs.declared.tool_fault.ToolFault.{ToolFault}
use Rattle.rw_text.specs.declared.tool_fault.ToolFault.TheVariants as fault
use Rattle.rw_log_commands.specs.LogText.{AreRecordsOfLines, IsBadLine, have_room, segment_of}

-- a fault of a text is that of its first bad line
abbrev pub IsFaultOfText : List ℕ → ToolFault → Type 0
IsFaultOfText text fault.OutOfMemory = Unit {0}
IsFaultOfText text (fault.Line number) = IsBadLine text number
IsFaultOfText text _ = ⊥

-- The records of the first lines of a text fill a segment: those of all lines, or as many as leave
-- no room for the next one.
pub record Fills (pages : ℕ) (text segment rest : List ℕ) : Type 0 where
  pub front : List (List ℕ)
  pub records : List (List ℕ)
  pub parts : lines text ≡ front ++ lines rest
  pub good : AreRecordsOfLines front records
  pub fits : have_room pages 0 records ≡ true
  pub bytes : segment ≡ segment_of records
  pub full : 0 < length rest → (next : List ℕ) × (later : List (List ℕ)) × (recs : List (List ℕ))
      × (lines rest ≡ next ∷ later) × AreRecordsOfLines (next ∷ []) recs × (have_room pages (length segment) recs ≡ false)
