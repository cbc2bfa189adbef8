-- A checkpoint in the place of the first segments of a log: what it says of what comes after it.
use Rattle.std.specs.Prelude.{◌≡◌, ℕ, ℤ, int_lt, ◌++◌, Bool, true, false, ◌||◌, ◌==◌, if◌then◌else◌, List, [], ◌∷◌, length, map, take}
use Rattle.std.specs.List.{AllByRecursion}
use Rattle.rw_types.specs.Labels.{Labels}
use Rattle.rw_types.specs.declared.entry.Entry.{Entry}
use Rattle.rw_types.specs.declared.entry.Entry.TheVariants.{Def, Sample}
use Rattle.rw_wal_format.specs.Pieces.{page_size}
use Rattle.rw_wal_format.specs.Series.{labels_of}
use Rattle.rw_kept_log.specs.Additions.{Point, definition_entry, samples_of_labels}
use Rattle.rw_kept_log.specs.Definitions.{definitions_in}
use Rattle.rw_kept_log.specs.Journal.{Segments}
use Rattle.rw_kept_log.specs.Logs.{entries_of, IsWholeText}
use Rattle.rw_kept_log.specs.Retiring.{with_first}

-- these entries use the reference before they define it
abbrev pub is_used : ℕ → List Entry → Bool
is_used r [] = false
is_used r (Def q labels ∷ es) = if q == r then false else is_used r es
is_used r (Sample q t w ∷ es) = (q == r) || is_used r es

-- of each reference that `later` uses, `cp` and `full` say the same labels
abbrev pub SaySame : List Entry → List Entry → List Entry → Type 0
SaySame full cp later =
    (r : ℕ) → is_used r later ≡ true → labels_of cp r (length cp) ≡ labels_of full r (length full)

-- the definitions of a log, in their order, as entries
abbrev pub definitions_of : List Entry → List Entry
definitions_of es = map definition_entry (definitions_in es)

-- These segments are a checkpoint of the first n ones of a log: they have their definitions, and no
-- samples. All of them end between two records.
pub record IsCheckpointOf (page n : ℕ) (segments texts : Segments) : Type 0 where
  pub says : entries_of page texts ≡ definitions_of (entries_of page (take n segments))
  pub whole : AllByRecursion (IsWholeText page) texts
  pub whole_first : AllByRecursion (IsWholeText page) (take n segments)

-- The first n segments of a log gave way to a checkpoint of them.
pub record IsRetired (n : ℕ) (old new : Segments) : Type 0 where
  pub texts : Segments
  pub is : IsCheckpointOf page_size n old texts
  pub folder : new ≡ with_first n texts old

-- none of these samples is later than the floor
abbrev pub AreNotAfter : ℤ → List Point → Type 0
AreNotAfter floor ps = AllByRecursion (λ p. int_lt floor p.0 ≡ false) ps

-- an entry is no sample that is later than the floor
abbrev pub IsOld : ℤ → Entry → Type 0
IsOld floor (Def r labels) = Unit {0}
IsOld floor (Sample r t w) = int_lt floor t ≡ false

-- The second log has of each label set what the first one has, less some of its first samples, none
-- of which is later than the floor; and it has the same definitions.
pub record LacksOld (floor : ℤ) (old new : Segments) : Type 0 where
  pub samples : (l : Labels) → (gone : List Point)
      × (samples_of_labels (entries_of page_size old) l ≡ gone ++ samples_of_labels (entries_of page_size new) l)
      × AreNotAfter floor gone
  pub definitions : definitions_in (entries_of page_size new) ≡ definitions_in (entries_of page_size old)
