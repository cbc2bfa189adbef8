-- The samples of a log that a sender would drop, whatever its rules keep.
use Rattle.std.specs.Prelude.{ℕ, ℤ, List, [], ◌∷◌, map, filter, length, Bool, true, false, if◌then◌else◌}
use Rattle.rw_types.specs.declared.entry.Entry.{Entry}
use Rattle.rw_types.specs.declared.entry.Entry.TheVariants.{Def, Sample}
use Rattle.rw_series_cache.specs.Known.{Standing, Unknown, Bad, Filtered, Kept, known}
use Rattle.rw_series_cache.specs.Rising.{rises}
use Rattle.rw_inspect.specs.declared.troubles.Trouble.{Trouble}
use Rattle.rw_inspect.specs.declared.troubles.Trouble.TheVariants.{NoSeries, BadLabels, NotRising}
use Rattle.rw_relabel.specs.Choices.{legacy}
use Rattle.rw_types.specs.Gathering.{gather}

-- A sample after these entries, of whose reference this is known: its reference has no definition
-- before it, or one whose labels are not a label set, or an earlier sample of its label set has the
-- same timestamp or a later one. No rules are evaluated.
abbrev pub trouble_as : List Entry → ℤ → Standing → List (ℕ × Trouble)
trouble_as before t Unknown = (length before, NoSeries) ∷ []
trouble_as before t (Bad f) = (length before, BadLabels) ∷ []
trouble_as before t Filtered = []
trouble_as before t (Kept l) = if rises legacy before l t then [] else (length before, NotRising) ∷ []

abbrev pub trouble_of : List Entry → Entry → List (ℕ × Trouble)
trouble_of before (Def reference labels) = []
trouble_of before (Sample reference t word) = trouble_as before t (known legacy before reference)

-- the samples in trouble, each with its position
abbrev pub troubles_of : List Entry → List (ℕ × Trouble)
troubles_of entries = gather trouble_of entries

abbrev pub has_no_series : ℕ × Trouble → Bool
has_no_series (p, NoSeries) = true
has_no_series (p, _) = false

abbrev pub has_bad_labels : ℕ × Trouble → Bool
has_bad_labels (p, BadLabels) = true
has_bad_labels (p, _) = false

abbrev pub does_not_rise : ℕ × Trouble → Bool
does_not_rise (p, NotRising) = true
does_not_rise (p, _) = false

abbrev pub trouble_position : ℕ × Trouble → ℕ
trouble_position t = t.0

-- the positions of those that do not rise
abbrev pub not_rising : List (ℕ × Trouble) → List ℕ
not_rising troubles = map trouble_position (filter does_not_rise troubles)
