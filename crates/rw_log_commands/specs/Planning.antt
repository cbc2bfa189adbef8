-- What a run of the command `plan` does to its reader and its writer.
use Rattle.std.specs.Prelude.{ℕ, ◌≤◌, List, length, take, Bool, Option, None}
use Rattle.std.specs.Io.KnownBytes.{Appends}
use Rattle.rw_external_labels.specs.External.{labelled}
use Rattle.rw_types.specs.Labels.{Labels}
use Rattle.rw_relabel.specs.declared.choice.Choice.{Choice}
use Rattle.rw_types.specs.declared.entry.Entry.{Entry}
use Rattle.rw_follow.specs.Meals.{Meal}
use Rattle.rw_log_commands.specs.Plan.{plan_of, plan_text}
use Rattle.rw_log_commands.specs.Running.{ReadsInput}
use Rattle.rw_log_commands.specs.Taking.{ReadsWhole}

-- a log without a fault, which may have Snappy blocks or has none, was read to its end, and the
-- plan of its entries with external labels was written
pub record PlansLog (choice : Choice) (external : Labels) (compresses : Bool) (gave had_all : Meal → Type 0) (before after : Option (List ℕ)) : Type 0 where
  pub entries : List Entry
  pub read : ReadsWhole compresses gave had_all entries
  pub written : Appends before after (plan_text choice (labelled external entries))

-- the same, and a prefix of its plan was written
pub record PlansLogPart (choice : Choice) (external : Labels) (compresses : Bool) (gave had_all : Meal → Type 0) (before after : Option (List ℕ)) : Type 0 where
  pub entries : List Entry
  pub read : ReadsWhole compresses gave had_all entries
  pub count : ℕ
  pub within : count ≤ length (plan_text choice (labelled external entries))
  pub written : Appends before after (take count (plan_text choice (labelled external entries)))

-- an input was read whose segment has no fault, and the segment's plan was written
abbrev pub WritesPlan : Choice → Labels → (hex compresses : Bool) → Option (List ℕ) → Option (List ℕ) → Option (List ℕ) → Option (List ℕ) → Type 0
WritesPlan choice external hex compresses left_before left_after before after =
    (segment : List ℕ) × ReadsInput hex compresses None left_before left_after segment
    × Appends before after (plan_of choice external compresses segment)

-- the same, and a prefix of its plan was written
abbrev pub WritesPlanPart : Choice → Labels → (hex compresses : Bool) → Option (List ℕ) → Option (List ℕ) → Option (List ℕ) → Option (List ℕ) → Type 0
WritesPlanPart choice external hex compresses left_before left_after before after =
    (segment : List ℕ) × ReadsInput hex compresses None left_before left_after segment
    × ((n : ℕ) × (n ≤ length (plan_of choice external compresses segment))
    × Appends before after (take n (plan_of choice external compresses segment)))
