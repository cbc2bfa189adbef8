-- A folder to which a writer may still be writing, and what was read of it.
use Rattle.std.specs.Prelude.{◌≡◌, ◌⊎◌, ℕ, suc, ◌-◌, ◌<◌, ltb, ◌==◌, Bool, true, false, List, ◌∷◌, [], ◌++◌, length, Option, None, Some, is_some, string_len, ⊤}
use Rattle.std.specs.List.{list_any}
use Rattle.std.specs.List.Sorted.{IsSortedBy}
use Rattle.rw_follow.specs.Meals.{Meal}
use Rattle.rw_log_folder.specs.Folders.{comes_before}
use Rattle.rw_log_folder.specs.Reading.{Reading, SegmentKey, key_of, next_in, reading_of}
use Rattle.rw_log_folder.specs.declared.files.SegmentName.{SegmentName}
use Rattle.rw_log_folder.specs.declared.folder.Current.{Current}
use Rattle.rw_log_folder.specs.declared.folder.Folder.{Folder}
use Rattle.rw_log_folder.specs.declared.folder_call.FolderCall.{FolderCall}
use Rattle.rw_log_folder.specs.declared.folder_call.FolderCall.TheVariants.{Listed, Opened, TookOpen, Read}

-- The number of the segment that is read first, or whether that is left to a checkpoint; the calls
-- so far; the current segment and the next one; how many files that were opened in advance are
-- left; and the number of a segment that was missing before the first one.
pub record FolderState : Type 0 where
  pub first : ℕ
  pub early : Bool
  pub calls : List FolderCall
  pub current : Option SegmentKey
  pub ahead : Option SegmentName
  pub opened : ℕ
  pub gap : Option ℕ

abbrev pub key_at : Option Current → Option SegmentKey
key_at None = None
key_at (Some c) = Some (key_of c.segment)

abbrev pub state : {R : Type 0} → Folder R → FolderState
state f = record {
  first = f.first;
  early = f.from_checkpoint;
  calls = f.device;
  current = key_at f.current;
  ahead = f.ahead;
  opened = length f.opened.items;
  gap = f.gap;
}

abbrev pub reading : FolderState → Reading
reading s = reading_of s.first s.early s.calls

-- the first segment after the current one, by the last listing since that was opened
abbrev pub next : FolderState → Option SegmentName
next s = next_in s.first s.current (reading s).listed

-- the number that comes after that of the current segment, or the first one
abbrev pub due : ℕ → Option SegmentKey → ℕ
due first None = first
due first (Some key) = suc key.number

abbrev pub IsBelow : ℕ → Option SegmentName → Type 0
IsBelow n None = ⊥
IsBelow n (Some s) = n < s.number

-- this number is due, but this segment, which is the next one, has a greater number
abbrev pub IsPassed : FolderState → Option SegmentName → ℕ → Type 0
IsPassed s ahead n = (n ≡ due s.first s.current) × IsBelow n ahead

-- these segments have none of this number, although they have one of a greater number
abbrev pub IsLackedBy : Option (List SegmentName) → ℕ → Type 0
IsLackedBy None n = ⊥
IsLackedBy (Some names) n = (list_any (λ (s : SegmentName). s.number == n) names ≡ false)
    × (list_any (λ (s : SegmentName). ltb n s.number) names ≡ true)

-- the number that comes next is missing in the last listing
abbrev pub IsMissingIn : FolderState → ℕ → Type 0
IsMissingIn s n = (n ≡ due s.first s.current) × IsLackedBy (reading s).listed n

-- a number is missing before the first segment by the last listing, or by those of a checkpoint
abbrev pub IsGapOf : FolderState → Option ℕ → Type 0
IsGapOf s None = ⊤
IsGapOf s (Some n) = (s.current ≡ None) × ((s.early ≡ true) ⊎ IsMissingIn s n)

-- a listing is in order
abbrev pub IsByNumber : Option (List SegmentName) → Type 0
IsByNumber None = ⊤
IsByNumber (Some names) = IsSortedBy comes_before names

-- this was read, each segment in its turn
pub record HasGiven (s : FolderState) (meal : Meal) : Type 0 where
  pub given : meal ≡ (reading s).meal
  pub in_order : (reading s).in_order ≡ true
  pub by_number : IsByNumber (reading s).listed
  -- and the folder knows what the calls say
  pub known : s.current ≡ (reading s).current
  pub seen : s.ahead ≡ next s
  pub in_advance : 0 < s.opened → (s.early ≡ true) × (is_some s.current ≡ true)
  pub gap : IsGapOf s s.gap

-- the folder was listed since the current segment was opened, or a checkpoint was looked for
abbrev pub WasListed : Bool → Option (List SegmentName) → Type 0
WasListed early None = early ≡ true
WasListed early (Some names) = ⊤

-- The last read of the current segment gave nothing; or there is none, and the folder was listed.
abbrev pub IsAtEnd : Bool → Option SegmentKey → Reading → Type 0
IsAtEnd early None r = WasListed early r.listed
IsAtEnd early (Some key) r = r.at_end ≡ true

abbrev pub IsSegmentRead : FolderState → Type 0
IsSegmentRead s = IsAtEnd s.early s.current (reading s)

-- there is a current segment, and one after it
abbrev pub HasNext : FolderState → Type 0
HasNext s = (is_some s.current ≡ true) × ((0 < s.opened) ⊎ (is_some (next s) ≡ true))

-- the folder was listed since the last read, if there is a current segment
abbrev pub IsFresh : FolderState → Type 0
IsFresh s = is_some s.current ≡ true → (reading s).is_fresh ≡ true

-- no segment comes after the current one, if there is one
abbrev pub IsLast : FolderState → Type 0
IsLast s = is_some s.current ≡ true
    → (s.opened ≡ 0) × ((next s ≡ None) × ((reading s).is_fresh ≡ true))

-- this was read, and is all that there was when the folder was listed after the last read
pub record HadAll (s : FolderState) (meal : Meal) : Type 0 where
  pub given : HasGiven s meal
  pub at_end : IsSegmentRead s
  pub opened : s.opened ≡ 0
  pub last : next s ≡ None
  pub fresh : IsFresh s

-- the segment of this number is missing after the current one, or before the first one
abbrev pub Lacks : FolderState → ℕ → Type 0
Lacks s n = (s.gap ≡ Some n) ⊎ (IsMissingIn s n × IsFresh s)

-- one more listing, which has these names
abbrev pub with_listing : List SegmentName → FolderState → FolderState
with_listing names s = record s {
  calls = s.calls ++ Listed names ∷ [];
  ahead = next_in s.first s.current (Some names);
}

pub record HasListed (old new : FolderState) : Type 0 where
  pub names : List SegmentName
  pub by_number : IsSortedBy comes_before names
  pub is : new ≡ with_listing names old

-- the segment ahead was opened, and is the current one
abbrev pub with_ahead : SegmentName → FolderState → FolderState
with_ahead name s = record s {
  calls = s.calls ++ Opened name.number (string_len name.name) ∷ [];
  current = Some (key_of name);
  ahead = None;
}

pub record HasOpened (old new : FolderState) : Type 0 where
  pub name : SegmentName
  pub was_ahead : old.ahead ≡ Some name
  pub is : new ≡ with_ahead name old

-- one of the files that were opened in advance is the current segment
abbrev pub with_taken : SegmentName → FolderState → FolderState
with_taken name s = record s {
  calls = s.calls ++ TookOpen name.number (string_len name.name) ∷ [];
  current = Some (key_of name);
  ahead = None;
  opened = s.opened - 1;
}

pub record HasTaken (old new : FolderState) : Type 0 where
  pub name : SegmentName
  pub is : new ≡ with_taken name old

-- a read of the current segment returned these bytes
abbrev pub with_read : List ℕ → FolderState → FolderState
with_read bytes s = record s { calls = s.calls ++ Read bytes ∷ [] }
