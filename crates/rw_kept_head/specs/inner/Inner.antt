-- Invariants of a log that is being written.
use Rattle.std.specs.Prelude.{◌≡◌, ◌++◌, [], ℕ, ℤ, List, map, Option, Some, None, Result, Ok, Err}
use Rattle.rw_types.specs.Beginnings.{Begins}
use Rattle.rw_types.specs.declared.entry.Entry.{Entry}
use Rattle.rw_wal_format.specs.Laws.{sample_entry}
use Rattle.rw_wal_format.specs.Pieces.{page_size}
use Rattle.rw_head.specs.Store.{Store}
use Rattle.rw_kept_log.specs.Journal.{Segments, Only, IsBegun}
use Rattle.rw_kept_log.specs.declared.journal.JournalError.{JournalError}
use Rattle.rw_kept_log.specs.Logs.{entries_of}
use Rattle.rw_kept_log.specs.Additions.{definition_entry}
use Rattle.rw_kept_log.specs.References.{ReferenceTable, IsNoted}
use Rattle.rw_kept_log.specs.Ends.{End, EndsAt}
use Rattle.rw_kept_head.specs.Kept.{SaysWhat}
use Rattle.rw_kept_head.specs.declared.keep_error.KeepError.{KeepError}

-- a journal, the references of its log, where the log ends, the most pages of a segment, and the
-- fault after which nothing is written any more
pub record Writing (J : Type 0) : Type 0 where
  pub journal : J
  pub references : ReferenceTable
  pub end : End
  pub pages : ℕ
  pub fault : Option JournalError

-- The log ends there between two records, the references are those that it defines, none of them is
-- new, and all of it is synced.
pub record IsWritable (segments : Segments) (may_leave : Segments → Type 0) (references : ReferenceTable) (offset : ℕ) : Type 0 where
  pub ends : EndsAt segments offset
  pub noted : IsNoted (entries_of page_size segments) references
  pub none_else : references.fresh ≡ []
  pub synced : Only segments may_leave

-- a next segment was begun or not; the log has the same entries, and all of it is synced
pub record GoesOn (old new : Segments) (may_leave : Segments → Type 0) (offset : ℕ) : Type 0 where
  pub begun : IsBegun old new
  pub entries : entries_of page_size new ≡ entries_of page_size old
  pub ends : EndsAt new offset
  pub synced : Only new may_leave

-- the log is writable, and says what the store has
pub record Keeps (segments : Segments) (may_leave : Segments → Type 0) (references : ReferenceTable) (offset : ℕ) (store : Store) : Type 0 where
  pub writable : IsWritable segments may_leave references offset
  pub says : SaysWhat segments store

-- the log once all was written; after an error nothing is said of it
abbrev pub ended_if : Result (Unit {0}) KeepError → Segments → Option Segments
ended_if (Ok u) segments = Some segments
ended_if (Err e) segments = None

-- What was written: the definitions of the label sets that have got a reference, and after them the
-- samples. The references that there were are kept.
pub record IsWritten (old new : ReferenceTable) (before after : List Entry) : Type 0 where
  pub samples : List (ℕ × ℤ × ℕ)
  pub kept : Begins old.known new.known
  pub entries : after ≡ before ++ map definition_entry kept.0 ++ map sample_entry samples
