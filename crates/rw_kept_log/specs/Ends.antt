-- Where a log ends, so that more records may be written to its last segment.
use Rattle.std.specs.Prelude.{◌≡◌, ℕ, List, [], ◌∷◌, ◌++◌, length, Some}
use Rattle.std.specs.List.{AllByRecursion}
use Rattle.rw_types.specs.declared.entry.Entry.{Entry}
use Rattle.rw_wal_format.specs.Laws.{AreRecords, log_all, entries_of_records}
use Rattle.rw_wal_format.specs.Pieces.{page_size}
use Rattle.rw_kept_log.specs.Journal.{Segments}
use Rattle.rw_kept_log.specs.Logs.{IsWholeText}

-- the most pages of a segment, and how many bytes of the last segment are written
pub record End : Type 0 where
  pub pages : ℕ
  pub offset : ℕ

-- The last segment has this many bytes, which are whole records, and each segment before it ends
-- between two records.
pub record EndsAt (segments : Segments) (offset : ℕ) : Type 0 where
  pub done : Segments
  pub records : List (List ℕ)
  pub entries : List Entry
  pub whole : AllByRecursion (IsWholeText page_size) done
  pub are : AreRecords records
  pub read : entries_of_records records ≡ Some entries
  pub folder : segments ≡ done ++ log_all page_size 0 records ∷ []
  pub len : offset ≡ length (log_all page_size 0 records)
