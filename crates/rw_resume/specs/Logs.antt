-- Segments in memory, and a log of some segments and then others.
use Rattle.std.specs.Prelude.{◌≡◌, ℕ, ◌≤◌, List, [], ◌∷◌, ◌++◌, length, take, Option, None, ⊤}
use Rattle.rw_follow.specs.Meals.{Meal, no_meal}
use Rattle.rw_kept_log.specs.Journal.{Segments}

-- The segments in memory that are left, the current one first, and how many bytes of it were read.
pub record TextsLeft : Type 0 where
  pub left : Segments
  pub offset : ℕ

-- These bytes of the current segment are between two offsets.
abbrev pub ReadsOn : Segments → ℕ → ℕ → List ℕ → Type 0
ReadsOn [] old new bytes = ⊤
ReadsOn (text ∷ later) old new bytes = take new text ≡ take old text ++ bytes

-- nothing is left of the current segment
abbrev pub IsTextRead : Segments → ℕ → Type 0
IsTextRead [] offset = ⊤
IsTextRead (text ∷ later) offset = length text ≤ offset

-- the first of two statements before the segments in memory are read, and then the second
abbrev pub unless_past : Segments → Type 0 → Type 0 → Type 0
unless_past [] first then_ = then_
unless_past (text ∷ later) first then_ = first

-- Of segments these were read whole, and of the current one all before an offset. The log after
-- them was not read.
pub record IsAmong (start later : Segments) (text : List ℕ) (offset : ℕ) (gave : Meal → Type 0) (meal : Meal) : Type 0 where
  pub whole : start ≡ meal.whole ++ text ∷ later
  pub begun : meal.begun ≡ take offset text
  pub unread : gave no_meal

-- what was read of a log, after all of some segments
abbrev pub joined : Segments → Meal → Meal
joined start meal = record { whole = start ++ meal.whole; begun = meal.begun }

-- All of the segments was read, and then this of the log after them.
pub record IsPast (start : Segments) (said : Meal → Type 0) (meal : Meal) : Type 0 where
  pub more : Meal
  pub is_said : said more
  pub meal_is : meal ≡ joined start more

-- this was read of segments, of which these are left, and of the log after them
abbrev pub GaveBoth : Segments → ℕ → Segments → (Meal → Type 0) → Meal → Type 0
GaveBoth [] offset start gave meal = IsPast start gave meal
GaveBoth (text ∷ later) offset start gave meal = IsAmong start later text offset gave meal

-- and this was all
abbrev pub HadBoth : Segments → Segments → (Meal → Type 0) → Meal → Type 0
HadBoth [] start had_all meal = IsPast start had_all meal
HadBoth (text ∷ later) start had_all meal = ⊥

-- nothing is left of the current one
abbrev pub IsReadBoth : Segments → ℕ → Type 0 → Type 0
IsReadBoth [] offset is_read = is_read
IsReadBoth (text ∷ later) offset is_read = length text ≤ offset

-- a segment in memory has no number
abbrev pub number_past : Segments → Option ℕ → Option ℕ
number_past [] number = number
number_past (text ∷ later) number = None

-- it is read from its beginning
abbrev pub base_past : Segments → ℕ → ℕ
base_past [] base = base
base_past (text ∷ later) base = 0
