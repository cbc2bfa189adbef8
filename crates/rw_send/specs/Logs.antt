-- What is known of a log that was shipped.
use Rattle.std.specs.Prelude.{◌≡◌, ◌⊎◌, ℕ, ◌<◌, Bool, List, length, Option}
use Rattle.rw_follow.specs.Meals.{Meal, no_meal, with_next, with_piece}
use Rattle.rw_follow.specs.Queues.{AreAllRead, AreRead, MayFail}
use Rattle.rw_types.specs.declared.transfer.ReadFault.{ReadFault}

-- What was read of it, whether that was all when it was last looked at, which segments are missing,
-- and how its calls may fail.
pub record Seen : Type 1 where
  pub gave : Meal → Type 0
  pub had_all : Meal → Type 0
  pub lacks : ℕ → Type 0
  pub may_fail : ReadFault → Type 0

abbrev pub seen_of : (gave had_all : Meal → Type 0) (lacks : ℕ → Type 0)
    (may_fail : ReadFault → Type 0) → Seen
seen_of gave had_all lacks may_fail =
    record { gave = gave; had_all = had_all; lacks = lacks; may_fail = may_fail }

-- A log that is there whole, in readers that had this left and have that left now, the current one
-- first, and are sure or not: it lacks no segment, and reading it takes no memory.
abbrev pub readers : (lefts now : List (Option (List ℕ))) → List Bool → Seen
readers lefts now sures = record {
  gave = λ meal. AreRead lefts meal.whole meal.begun now;
  had_all = λ meal. AreAllRead lefts meal;
  lacks = λ _. ⊥;
  may_fail = λ f. MayFail sures f;
}

-- this is what was read, or all but what was read last: some bytes, or the end of a segment
abbrev pub IsAlmostRead : (Meal → Type 0) → Meal → Type 0
IsAlmostRead gave fed =
    gave fed ⊎ (((more : List ℕ) × gave (with_piece fed more)) ⊎ gave (with_next fed))

-- no byte was read of it, and none of its segments is over
abbrev pub GaveNothing : (Meal → Type 0) → Type 0
GaveNothing gave = (meal : Meal) → gave meal → meal ≡ no_meal

-- the log has returned more bytes than were fed
abbrev pub HasGivenMore : Seen → Meal → Type 0
HasGivenMore log fed = (more : List ℕ) × (0 < length more) × log.gave (with_piece fed more)
