-- What was read of a log of segments.
use Rattle.std.specs.Prelude.{ℕ, List, [], ◌∷◌, ◌++◌, take, Result, Ok, Err}

-- What a consumer was fed: whole segments, and a prefix of one more.
pub record Meal : Type 0 where
  pub whole : List (List ℕ)
  pub begun : List ℕ

-- nothing yet
abbrev pub no_meal : Meal
no_meal = record { whole = []; begun = [] }

-- with these bytes more
abbrev pub with_piece : Meal → List ℕ → Meal
with_piece meal bytes = record { whole = meal.whole; begun = meal.begun ++ bytes }

-- with the end of the segment
abbrev pub with_next : Meal → Meal
with_next meal = record { whole = meal.whole ++ meal.begun ∷ []; begun = [] }

-- with what a read gives into this buffer; a read that fails gives nothing
abbrev pub read_by : {E : Type 0} → Result ℕ E → List ℕ → Meal → Meal
read_by (Ok n) buf meal = with_piece meal (take n buf)
read_by (Err e) buf meal = meal
