-- Records that were written one after the other.
use Rattle.std.specs.Prelude.{◌≡◌, ℕ, ◌+◌, List, ◌++◌, length, Some}
use Rattle.rw_types.specs.declared.entry.Entry.{Entry}
use Rattle.rw_wal_format.specs.Laws.{AreRecords, log_all, entries_of_records}
use Rattle.rw_wal_format.specs.Pieces.{page_size}
use Rattle.rw_wal_write.specs.Segment.{Segment}
use Rattle.rw_kept_log.specs.inner.Buffers.{Buffered}

-- Records with these entries were written, one after the other.
pub record Holds (old new : Segment Buffered) (entries : List Entry) : Type 0 where
  pub records : List (List ℕ)
  pub are : AreRecords records
  pub read : entries_of_records records ≡ Some entries
  pub bytes : new.sink.bytes ≡ old.sink.bytes ++ log_all page_size old.offset records
  pub offset : new.offset ≡ old.offset + length (log_all page_size old.offset records)
  pub pages : new.pages ≡ old.pages
