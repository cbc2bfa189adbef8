-- Inner definitions beside those of Taking.antt: only invariants, private functions and
-- proofs use them.
use Rattle.std.specs.Prelude.{◌≡◌, ℕ, List, [], ◌∷◌, Bool, true, Option}
use Rattle.std.specs.Io.KnownBytes.{Consumes, IsAtEnd}
use Rattle.rw_follow.specs.Meals.{Meal}
use Rattle.rw_follow.specs.Queues.{AreRead}
use Rattle.rw_wal_format.specs.Pieces.{fault}
use Rattle.rw_wal_format.specs.declared.tail_fault.TailFault.{TailFault}
use Rattle.rw_text.specs.declared.tool_fault.ToolFault.{ToolFault}
use Rattle.rw_text.specs.declared.tool_fault.ToolFault.TheVariants.{OutOfMemory, Log, Line, SegmentFull, Device}
use Rattle.rw_log_read.specs.Logs.{log_in}
use Rattle.rw_log_commands.specs.Taking.{ReadsLogToFault, ReadsToFault}

-- what a command says of a log of which this was read and that has this fault
abbrev pub SaysFault : Bool → (Meal → Type 0) → ToolFault → Type 0
SaysFault compresses gave OutOfMemory = Unit {0}
SaysFault compresses gave (Log f) = ReadsLogToFault compresses f gave
SaysFault compresses gave (Line line) = ⊥
SaysFault compresses gave SegmentFull = ⊥
SaysFault compresses gave Device = ⊥

-- what is read of a log of one segment, which had this left and has that left now, and what all is
abbrev pub of_one : Option (List ℕ) → Option (List ℕ) → Meal → Type 0
of_one before after meal = AreRead (before ∷ []) meal.whole meal.begun (after ∷ [])

abbrev pub all_of_one : Option (List ℕ) → Option (List ℕ) → Meal → Type 0
all_of_one before after meal = of_one before after meal × IsAtEnd after

-- a segment was read to the end, and it has a fault, or none
pub record ReadsSegment (compresses : Bool) (has : Option TailFault) (left_before left_after : Option (List ℕ)) (segment : List ℕ) : Type 0 where
  pub read : Consumes left_before left_after segment
  pub ended : IsAtEnd left_after
  pub faulty : fault (log_in compresses (segment ∷ [])) ≡ has

-- why a segment is not read to its end, by a reader that then has failed or not
abbrev pub StopsReading : Bool → Option (List ℕ) → Option (List ℕ) → Bool → ToolFault → Type 0
StopsReading compresses left_before left_after failed OutOfMemory = Unit {0}
StopsReading compresses left_before left_after failed (Log f) = ReadsToFault compresses f left_before left_after
StopsReading compresses left_before left_after failed (Line line) = ⊥
StopsReading compresses left_before left_after failed SegmentFull = ⊥
StopsReading compresses left_before left_after failed Device = failed ≡ true
