-- Which files of a log are read, and in which order.
use Rattle.std.specs.Prelude.{◌≡◌, ℕ, ◌+◌, ◌<◌, ◌≤◌, ltb, ◌==◌, Bool, true, false, List, [], ◌++◌, map, Option, None, Some}
use Rattle.std.specs.List.{All, Contains, filter, list_any}
use Rattle.std.specs.List.Sorted.{IsPermutation, IsSortedBy}
use Rattle.std.specs.Ordering.{is_lt, nat_cmp, ordering_then}
use Rattle.rw_log_folder.specs.declared.listing.Checkpoint.{Checkpoint}
use Rattle.rw_log_folder.specs.declared.listing.Listing.{Listing}
use Rattle.rw_log_folder.specs.declared.listing.NumberedName.{NumberedName}
use Rattle.rw_log_folder.specs.declared.listing.LogFile.{LogFile}

-- by number, and of two names of one number the shorter first
abbrev pub comes_before : NumberedName → NumberedName → Bool
comes_before x y = is_lt (ordering_then (nat_cmp x.number y.number) (nat_cmp x.digits y.digits))

-- `sorted` has these names, by ascending number
abbrev pub AreByNumber : List NumberedName → List NumberedName → Type 0
AreByNumber names sorted = IsPermutation names sorted × IsSortedBy comes_before sorted

-- the checkpoint with the greatest number, if there is one
abbrev pub IsNewest : List Checkpoint → Option Checkpoint → Type 0
IsNewest checkpoints None = checkpoints ≡ []
IsNewest checkpoints (Some newest) = Contains checkpoints newest
    × All (λ (c : Checkpoint). c.name.number ≤ newest.name.number) checkpoints

abbrev pub place_in : Option NumberedName → NumberedName → LogFile
place_in checkpoint segment = record { checkpoint = checkpoint; segment = segment }

-- the segment comes after a checkpoint of this number
abbrev pub is_after_checkpoint : ℕ → NumberedName → Bool
is_after_checkpoint number segment = ltb number segment.number

-- a segment of this number exists
abbrev pub has_number : List NumberedName → ℕ → Bool
has_number segments n = list_any (λ (s : NumberedName). s.number == n) segments

-- a segment of a greater number exists
abbrev pub has_above : List NumberedName → ℕ → Bool
has_above segments n = list_any (is_after_checkpoint n) segments

-- n is the least number above `last` that is missing although a greater one exists
pub record IsGap (last : ℕ) (segments : List NumberedName) (n : ℕ) : Type 0 where
  pub above : last < n
  pub absent : has_number segments n ≡ false
  pub later : has_above segments n ≡ true
  pub least : (k : ℕ) → last < k → k < n → has_number segments k ≡ true

-- no number above `last` is missing before one that exists
abbrev pub HasNoGap : ℕ → List NumberedName → Type 0
HasNoGap last segments =
    (k : ℕ) → last < k → has_above segments k ≡ true → has_number segments k ≡ true

-- the files of a log that is read from this checkpoint on: its segments by ascending number, and
-- then those of the folder with greater numbers than the checkpoint's, none missing between
pub record IsReadFrom (checkpoint : Checkpoint) (segments : List NumberedName) (places : List LogFile) : Type 0 where
  pub first : List NumberedName
  pub then_ : List NumberedName
  pub first_sorted : AreByNumber checkpoint.segments.items first
  pub then_sorted : AreByNumber (filter (is_after_checkpoint checkpoint.name.number) segments) then_
  pub whole : HasNoGap checkpoint.name.number (filter (is_after_checkpoint checkpoint.name.number) segments)
  pub is : places ≡ map (place_in (Some checkpoint.name)) first ++ map (place_in None) then_

-- the files of a log: from a checkpoint on, or, without one, all segments by ascending number
abbrev pub IsReadAfter : Option Checkpoint → List NumberedName → List LogFile → Type 0
IsReadAfter None segments places =
    (sorted : List NumberedName) × AreByNumber segments sorted × (places ≡ map (place_in None) sorted)
IsReadAfter (Some checkpoint) segments places = IsReadFrom checkpoint segments places

-- the files of the log in a folder, from the newest checkpoint on
abbrev pub IsLogOrder : Listing → List LogFile → Type 0
IsLogOrder listing places = (newest : Option Checkpoint)
    × IsNewest listing.checkpoints.items newest × IsReadAfter newest listing.segments.items places

-- the least number that is missing after the newest checkpoint although a greater one exists
abbrev pub IsMissing : Listing → ℕ → Type 0
IsMissing listing n = (checkpoint : Checkpoint) × IsNewest listing.checkpoints.items (Some checkpoint)
    × IsGap checkpoint.name.number (filter (is_after_checkpoint checkpoint.name.number) listing.segments.items) n
