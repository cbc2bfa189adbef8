-- What is known of a log after some entries.
use Rattle.std.specs.Prelude.{◌≡◌, ℕ, List, [], get_or, map}
use Rattle.std.specs.List.{AllByRecursion}
use Rattle.rw_types.specs.Labels.{Labels}
use Rattle.rw_types.specs.declared.entry.Entry.{Entry}
use Rattle.rw_batch.specs.Grouping.{message, labels_of_series}
use Rattle.rw_batch.specs.Groups.{Groups}
use Rattle.rw_series_cache.specs.Cached.{Taken}
use Rattle.rw_series_cache.specs.Known.{definitions_of}
use Rattle.rw_series_cache.specs.Numbers.{series_of, HasNumber}
use Rattle.rw_relabel.specs.Choices.{legacy}
use Rattle.rw_log_commands.specs.Labelled.{labelled_samples}

-- the labels of a number
abbrev pub labels_at : List Labels → ℕ → Labels
labels_at sets n = get_or sets n []

-- a number is that of its labels
abbrev pub IsNumber : List Labels → ℕ → Type 0
IsNumber sets n = HasNumber sets (labels_at sets n) n

-- Each series has the number of its labels.
pub record IsNumbered (sets : List Labels) (g : Groups) : Type 0 where
  pub labels : labels_of_series g.series ≡ map (labels_at sets) g.numbers
  pub numbers : AllByRecursion (IsNumber sets) g.numbers

-- The cache has the definitions, and no rules. The samples are grouped, by the numbers of the
-- cache.
pub record IsLabelling (es : List Entry) (cached : Taken) (g : Groups) : Type 0 where
  pub choice : cached.choice ≡ legacy
  pub definitions : definitions_of es ≡ cached.definitions
  pub grouped : g.series ≡ message (labelled_samples es)
  pub numbered : IsNumbered (series_of legacy es) g
