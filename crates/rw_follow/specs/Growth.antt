-- A log of segments that grows at its end while it is read, and what was read of it.
use Rattle.std.specs.Prelude.{◌≡◌, ℕ, ◌<◌, List, [], ◌∷◌, ◌++◌, length, take, ⊤, Result, Option, Some, MatchResult}
use Rattle.rw_follow.specs.Meals.{Meal}

-- Only the last segment grows, and new ones come after it.
abbrev pub Grown : List (List ℕ) → List (List ℕ) → Type 0
Grown [] ys = ⊤
Grown (x ∷ xs) [] = ⊥
Grown (x ∷ []) (y ∷ ys) = (more : List ℕ) × (y ≡ x ++ more)
Grown (x ∷ w ∷ xs) (y ∷ ys) = (y ≡ x) × Grown (w ∷ xs) ys

-- What exists at a moment: the segments that were read whole, what was read of the current one and
-- what is left of it, those after it, and the number of the one that is missing after them, if one
-- is.
pub record Moment : Type 0 where
  pub done : List (List ℕ)
  pub given : List ℕ
  pub rest : List ℕ
  pub after : List (List ℕ)
  pub gap : Option ℕ

-- the texts of the segments that exist, in order
abbrev pub texts : Moment → List (List ℕ)
texts m = m.done ++ (m.given ++ m.rest) ∷ m.after

-- A moment and a later one, before which these bytes of the current segment were read.
pub record Later (old : Moment) (bytes : List ℕ) (new : Moment) : Type 0 where
  pub done : new.done ≡ old.done
  pub given : new.given ≡ old.given ++ bytes
  pub grown : Grown (texts old) (texts new)

-- nothing is left of the current segment
abbrev pub IsSegmentRead : Moment → Type 0
IsSegmentRead m = m.rest ≡ []

-- a segment comes after the current one
abbrev pub HasNextSegment : Moment → Type 0
HasNextSegment m = 0 < length m.after

-- no segment does
abbrev pub IsLastSegment : Moment → Type 0
IsLastSegment m = m.after ≡ []

-- the segment of this number is missing after the current one
abbrev pub HasGap : ℕ → Moment → Type 0
HasGap n m = IsLastSegment m × (m.gap ≡ Some n)

-- this is what was read
pub record IsGivenAt (meal : Meal) (m : Moment) : Type 0 where
  pub whole : meal.whole ≡ m.done
  pub begun : meal.begun ≡ m.given

-- and since this start the log only grew
pub record IsReadOf (start : Moment) (meal : Meal) (now : Moment) : Type 0 where
  pub given : IsGivenAt meal now
  pub grown : Grown (texts start) (texts now)

-- This is all that was there a moment ago: since then nothing was read, and more may have come.
pub record HadAll (meal : Meal) (now : Moment) : Type 0 where
  pub earlier : Moment
  pub later : Later earlier [] now
  pub given : IsGivenAt meal earlier
  pub is_read : IsSegmentRead earlier
  pub is_last : IsLastSegment earlier

-- A read over memory returns the next bytes of what was left, after the log may have grown.
abbrev pub Gives : {E : Type 0} → Moment → Moment → Result ℕ E → List ℕ → Type 0
Gives old new r buf = MatchResult r (λ n. (old.rest ≡ take n buf ++ new.rest) × ((new.given ≡ old.given ++ take n buf) × (n ≡ 0 → 0 < length buf → new.rest ≡ []))) (λ _. (new.given ≡ old.given) × (new.rest ≡ old.rest))
