-- The noted timestamps of series.
use Rattle.std.specs.Prelude.{ℕ, suc, ℤ, List, [], ◌∷◌, Option, None, Some}
use Rattle.std.specs.Ordering.{nat_cmp}
use Rattle.std.specs.FinMap.{FinMap, empty, insert}

-- for how many series there is a place, and what is noted of each, by its number
pub record Times : Type 0 where
  pub places : ℕ
  pub times : FinMap nat_cmp ℤ

-- a list of places, from one number on
abbrev pub times_from : ℕ → List (Option ℤ) → FinMap nat_cmp ℤ
times_from n [] = empty
times_from n (None ∷ ts) = times_from (suc n) ts
times_from n (Some t ∷ ts) = insert (times_from (suc n) ts) n t
