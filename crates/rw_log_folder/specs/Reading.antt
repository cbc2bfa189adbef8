-- What was read of a folder, by what was asked of it.
use Rattle.std.specs.Prelude.{ℕ, ltb, ◌==◌, ◌&&◌, ◌||◌, not, Bool, true, false, List, [], ◌∷◌, fold, Option, None, Some, string_len}
use Rattle.std.specs.List.{find}
use Rattle.rw_follow.specs.Meals.{Meal, no_meal, with_next, with_piece}
use Rattle.rw_log_folder.specs.declared.files.SegmentName.{SegmentName}
use Rattle.rw_log_folder.specs.declared.folder_call.FolderCall.{FolderCall}
use Rattle.rw_log_folder.specs.declared.folder_call.FolderCall.TheVariants.{Listed, Opened, TookOpen, Read}

-- what tells a segment from the others of its folder: its number, and the length of its name
pub record SegmentKey : Type 0 where
  pub number : ℕ
  pub length : ℕ

abbrev pub key_with : ℕ → ℕ → SegmentKey
key_with number len = record { number = number; length = len }

abbrev pub key_of : SegmentName → SegmentKey
key_of s = key_with s.number (string_len s.name)

abbrev pub is_named : SegmentKey → SegmentName → Bool
is_named key s = (key.number == s.number) && (key.length == string_len s.name)

-- The segment comes after the current one: by number, and of one number by the length of the name.
-- Without a current one it has this number or a greater one.
abbrev pub is_after : ℕ → Option SegmentKey → SegmentName → Bool
is_after first None s = not (ltb s.number first)
is_after first (Some key) s = ltb key.number s.number
    || ((key.number == s.number) && ltb key.length (string_len s.name))

-- What is known by the calls so far: what was read, the current segment, whether the last read of
-- it gave nothing, the last listing since it was opened, whether that was the last call of all, and
-- whether each segment that was opened by then was the one that came next.
pub record Reading : Type 0 where
  pub meal : Meal
  pub current : Option SegmentKey
  pub at_end : Bool
  pub listed : Option (List SegmentName)
  pub is_fresh : Bool
  pub in_order : Bool

-- the first segment of the last listing that comes after the current one
abbrev pub next_in : ℕ → Option SegmentKey → Option (List SegmentName) → Option SegmentName
next_in first current None = None
next_in first current (Some names) = find (is_after first current) names

abbrev pub next_of : ℕ → Reading → Option SegmentName
next_of first r = next_in first r.current r.listed

abbrev pub is_next : SegmentKey → Option SegmentName → Bool
is_next key None = false
is_next key (Some s) = is_named key s

-- the first segment begins a meal, each later one ends the segment before it
abbrev pub meal_with : Option SegmentKey → Meal → Meal
meal_with None meal = meal
meal_with (Some key) meal = with_next meal

abbrev pub opened : SegmentKey → Bool → Reading → Reading
opened key in_order r = record {
  meal = meal_with r.current r.meal;
  current = Some key;
  at_end = false;
  listed = None;
  is_fresh = false;
  in_order = r.in_order && in_order;
}

abbrev pub is_empty : List ℕ → Bool
is_empty [] = true
is_empty (b ∷ bs) = false

-- Only a log that is read from its checkpoint on has files that were opened in advance. No listing
-- says which of them comes next.
abbrev pub step : ℕ → Bool → Reading → FolderCall → Reading
step first early r (Listed names) = record r { listed = Some names; is_fresh = true }
step first early r (Opened number len) =
    opened (key_with number len) (is_next (key_with number len) (next_of first r)) r
step first early r (TookOpen number len) = opened (key_with number len) early r
step first early r (Read bytes) =
    record r { meal = with_piece r.meal bytes; at_end = is_empty bytes; is_fresh = false }

-- before the first call
abbrev pub no_reading : Reading
no_reading = record {
  meal = no_meal;
  current = None;
  at_end = false;
  listed = None;
  is_fresh = false;
  in_order = true;
}

-- After these calls, in order, of a log that is read from the segment of the number `first` on, or
-- from its checkpoint on.
abbrev pub reading_of : ℕ → Bool → List FolderCall → Reading
reading_of first early calls = fold (step first early) no_reading calls
