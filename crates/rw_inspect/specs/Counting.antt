-- What a counter of a log keeps.
use Rattle.std.specs.Prelude.{List, length, count_by}
use Rattle.rw_types.specs.declared.entry.Entry.{Entry}
use Rattle.rw_series_cache.specs.Numbers.{series_of}
use Rattle.rw_log_read.specs.Sums.{sums_of}
use Rattle.rw_inspect.specs.Troubles.{has_bad_labels, has_no_series, not_rising, troubles_of}
use Rattle.rw_inspect.specs.declared.counts.Counts.{Counts}
use Rattle.rw_relabel.specs.Choices.{legacy}

-- what is counted of entries; if no rules are given, all label sets are series
unfoldable pub log_counts : List Entry → Counts
log_counts entries = record {
  sums = sums_of entries;
  label_sets = length (series_of legacy entries);
  without_series = count_by has_no_series (troubles_of entries);
  bad_labels = count_by has_bad_labels (troubles_of entries);
  not_rising = length (not_rising (troubles_of entries));
}
