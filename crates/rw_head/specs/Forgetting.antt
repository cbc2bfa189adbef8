-- Lists whose first samples are gone: a head no longer has them in memory. To each contract they
-- belong to the list all the same.
use Rattle.std.specs.Prelude.{ℤ, pos, List, [], ◌∷◌, ◌++◌, Option, None, Some}
use Rattle.rw_head.specs.Order.{Point}

-- the timestamp of the last sample
abbrev pub last_time : List Point → Option ℤ
last_time [] = None
last_time (x ∷ []) = Some x.0
last_time (x ∷ y ∷ ys) = last_time (y ∷ ys)

-- the same list with those that are gone in front
abbrev pub with_gone : List Point → Option (List Point) → Option (List Point)
with_gone gone None = None
with_gone gone (Some xs) = Some (gone ++ xs)

-- three samples, of which the first two are gone
abbrev pub example_gone : List Point
example_gone = (pos 10, 1) ∷ (pos 20, 2) ∷ []

abbrev pub example_left : List Point
example_left = (pos 30, 3) ∷ []
