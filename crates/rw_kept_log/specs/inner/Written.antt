-- Segments that are written one after the other.
use Rattle.std.specs.Prelude.{◌≡◌, List}
use Rattle.std.specs.List.{AllByRecursion}
use Rattle.rw_types.specs.declared.entry.Entry.{Entry}
use Rattle.rw_kept_log.specs.Journal.{Segments}
use Rattle.rw_kept_log.specs.Logs.{entries_of, IsWholeText}
use Rattle.rw_wal_format.specs.Pieces.{page_size}

-- each of them ends between two records, and they have these entries
pub record AreWhole (segments : Segments) (es : List Entry) : Type 0 where
  pub all : AllByRecursion (IsWholeText page_size) segments
  pub read : entries_of page_size segments ≡ es
