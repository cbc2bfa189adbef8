-- How a following goes on.
use Rattle.std.specs.Prelude.{ℕ, ◌≤◌, List, take, ⊤, Result, Ok, Err}
use Rattle.rw_follow.specs.Meals.{Meal, with_next, with_piece}
use Rattle.rw_follow.specs.declared.follower.Turn.{Turn}
use Rattle.rw_follow.specs.declared.follower.Turn.TheVariants as turn

-- what was read with one more turn, which has this buffer
abbrev pub given_by : Turn → List ℕ → Meal → Meal
given_by (turn.Piece n) buf meal = with_piece meal (take n buf)
given_by turn.Over buf meal = with_next meal
given_by turn.Flush buf meal = meal
given_by turn.Nothing buf meal = meal
given_by turn.Finished buf meal = meal
given_by turn.Aborted buf meal = meal

-- one that fails gives nothing
abbrev pub given_with : {E : Type 0} → Result Turn E → List ℕ → Meal → Meal
given_with (Ok t) buf meal = given_by t buf meal
given_with (Err e) buf meal = meal

-- its bytes are in a buffer of this length
abbrev pub FitsBuffer : Turn → ℕ → Type 0
FitsBuffer (turn.Piece n) len = n ≤ len
FitsBuffer turn.Over len = ⊤
FitsBuffer turn.Flush len = ⊤
FitsBuffer turn.Nothing len = ⊤
FitsBuffer turn.Finished len = ⊤
FitsBuffer turn.Aborted len = ⊤
