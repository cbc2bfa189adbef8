-- A segment in memory that is being filled with records.
use Rattle.std.specs.Prelude.{◌≡◌, ℕ, ◌+◌, ◌*◌, ◌≤◌, List, ◌++◌, length, false, true}
use Rattle.rw_wal_format.specs.Laws.{log_all}
use Rattle.rw_wal_format.specs.Pieces.{page_size}
use Rattle.rw_types.specs.Memory.{Reserved}
use Rattle.rw_log_commands.specs.LogText.{have_room}
use Rattle.rw_wal_write.specs.Segment.{Segment, IsPlace}

-- It can take all bytes of its pages.
pub record HasMemory (s : Segment Reserved) : Type 0 where
  pub place : IsPlace s.pages s.offset
  pub open' : s.closed ≡ false
  pub sound : s.sink.has_failed ≡ false
  pub written : s.offset ≡ length s.sink.bytes
  pub reserved : s.pages * page_size ≤ s.sink.room + s.offset

-- Records had room and were written.
pub record TakesRecords (old new : Segment Reserved) (recs : List (List ℕ)) : Type 0 where
  pub bytes : new.sink.bytes ≡ old.sink.bytes ++ log_all page_size old.offset recs
  pub pages : new.pages ≡ old.pages
  pub memory : HasMemory new
  pub fits : have_room old.pages old.offset recs ≡ true
