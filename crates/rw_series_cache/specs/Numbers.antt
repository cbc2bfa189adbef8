-- The series of a log and their numbers.
use Rattle.std.specs.Prelude.{◌≡◌, ℕ, List, [], ◌∷◌, ◌++◌, Some, fold, slice_get, if◌then◌else◌}
use Rattle.std.specs.List.{list_any, position_or_len}
use Rattle.rw_types.specs.Labels.{Labels}
use Rattle.rw_types.specs.LabelOrder.{labels_eq}
use Rattle.rw_types.specs.declared.entry.Entry.{Entry}
use Rattle.rw_types.specs.declared.entry.Entry.TheVariants.{Def, Sample}
use Rattle.rw_relabel.specs.declared.choice.Choice.{Choice}
use Rattle.rw_series_cache.specs.Known.{Standing, Unknown, Bad, Filtered, Kept, standing_of}

-- a label set that is kept and is not yet a series becomes the last one
abbrev pub with_series : List Labels → Standing → List Labels
with_series series Unknown = series
with_series series (Bad fault) = series
with_series series Filtered = series
with_series series (Kept l) = if list_any (labels_eq l) series then series else series ++ l ∷ []

abbrev pub with_entry : Choice → List Labels → Entry → List Labels
with_entry choice series (Def reference labels) = with_series series (standing_of choice (Some labels))
with_entry choice series (Sample reference t word) = series

-- the kept label sets of entries, in the order in which they were first kept
unfoldable pub series_of : Choice → List Entry → List Labels
series_of choice entries = fold (with_entry choice) [] entries

-- a series' number is its place
abbrev pub number_of : List Labels → Labels → ℕ
number_of series l = position_or_len (labels_eq l) series

-- the labels have this number, and are there
pub record HasNumber (series : List Labels) (l : Labels) (number : ℕ) : Type 0 where
  pub numbered : number ≡ number_of series l
  pub stands : slice_get series number ≡ Some l
