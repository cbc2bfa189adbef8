-- A log of whose first segment some bytes come first in place of those that it has.
use Rattle.std.specs.Prelude.{◌≡◌, ◌⊎◌, ℕ, ◌<◌, ◌≤◌, ◌-◌, Bool, true, false, List, [], ◌∷◌, ◌++◌, length, take, drop, Option, None}
use Rattle.rw_follow.specs.Meals.{Meal}
use Rattle.rw_kept_log.specs.Journal.{Segments}
use Rattle.rw_resume.specs.Goings.{EndsRecord}
use Rattle.rw_types.specs.declared.entry.Entry.{Entry}
use Rattle.rw_wal_format.specs.Pieces.{page_size}
use Rattle.rw_wal_format.specs.Segments.{segment_in}

-- the first `count` bytes of the first segment were read, and nothing else
pub record HasReadBytes (gave : Meal → Type 0) (count : ℕ) : Type 0 where
  pub bytes : List ℕ
  pub len : length bytes ≡ count
  pub given : gave (record { whole = []; begun = bytes })

-- The same, a record ends with these bytes, and their entries were taken after those before. `c`
-- says whether the log may have Snappy blocks.
pub record HasPassed (c : Bool) (count : ℕ) (gave : Meal → Type 0) (before after : List Entry) : Type 0 where
  pub read : HasReadBytes gave count
  pub ends : EndsRecord c page_size read.bytes
  pub taken : after ≡ before ++ (segment_in c page_size read.bytes).entries

-- This was read of the first segment, and whatever comes after it, no record ends with the first
-- `count` bytes.
pub record IsWithin (c : Bool) (count : ℕ) (gave : Meal → Type 0) : Type 0 where
  pub bytes : List ℕ
  pub given : gave (record { whole = []; begun = bytes })
  pub none : (more : List ℕ) → length (bytes ++ more) ≡ count → EndsRecord c page_size (bytes ++ more) → ⊥

-- a segment with other bytes in place of its first ones
abbrev pub replaced : List ℕ → ℕ → List ℕ → List ℕ
replaced front passed text = front ++ drop passed text

-- what was read, if this was read of the log
abbrev pub shown_of : List ℕ → ℕ → Segments → List ℕ → Meal
shown_of front passed [] begun = record { whole = []; begun = replaced front passed begun }
shown_of front passed (text ∷ later) begun = record { whole = replaced front passed text ∷ later; begun = begun }

-- what was read of the first segment of the log is not less than what is replaced
abbrev pub HasFirst : ℕ → Segments → List ℕ → Type 0
HasFirst passed [] begun = passed ≤ length begun
HasFirst passed (text ∷ later) begun = passed ≤ length text

-- This was read of the log, and all of the front before it.
pub record IsShown (front : List ℕ) (passed : ℕ) (said : Meal → Type 0) (meal : Meal) : Type 0 where
  pub more : Meal
  pub is_said : said more
  pub first : HasFirst passed more.whole more.begun
  pub meal_is : meal ≡ shown_of front passed more.whole more.begun

-- Of the front `shown` bytes were read, and of the log what is replaced.
pub record IsFronted (front : List ℕ) (shown passed : ℕ) (said : Meal → Type 0) (meal : Meal) : Type 0 where
  pub some : shown < length front
  pub is_passed : HasReadBytes said passed
  pub meal_is : meal ≡ record { whole = []; begun = take shown front }

-- this was read
abbrev pub GaveMidway : List ℕ → ℕ → ℕ → (Meal → Type 0) → Meal → Type 0
GaveMidway front shown passed gave meal =
    IsFronted front shown passed gave meal ⊎ ((length front ≤ shown) × IsShown front passed gave meal)

-- and this was all
abbrev pub HadMidway : List ℕ → ℕ → (Meal → Type 0) → Meal → Type 0
HadMidway front passed had_all meal = IsShown front passed had_all meal

-- the current segment has its number once all of the front was read
abbrev pub number_once : Bool → Option ℕ → Option ℕ
number_once true number = None
number_once false number = number

-- how many bytes of the current segment come before those that are read of it
abbrev pub base_of : Bool → ℕ → ℕ → ℕ → ℕ
base_of true passed front base = passed - front
base_of false passed front base = base
