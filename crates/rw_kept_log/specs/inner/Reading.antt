-- Inner definitions beside those of Reading.antt: only invariants, private functions and
-- proofs use them.
use Rattle.std.specs.Prelude.{◌≡◌, ℕ, List, [], ◌++◌, length, Option, Some, None}
use Rattle.rw_types.specs.declared.entry.Entry.{Entry}
use Rattle.rw_wal_format.specs.Pieces.{Piece, entries, fault, page_size, reading, reading_after}
use Rattle.rw_wal_format.specs.Segments.{segment}
use Rattle.rw_wal_format.specs.declared.tail_fault.TailFault.{TailFault}
use Rattle.rw_wal_tail.specs.Fed.{Fed}
use Rattle.rw_wal_tail.specs.Places.{stop_after}
use Rattle.rw_wal_tail.specs.Taking.{HasTaken}
use Rattle.rw_kept_log.specs.declared.segment_read.SegmentFault.{SegmentFault}
use Rattle.rw_kept_log.specs.declared.segment_read.SegmentRead.{SegmentRead}
use Rattle.rw_kept_log.specs.Reading.{ended, HasFault}

-- what contracts see of a taker whose greatest reference is noted
pub record Watched (T : Type 0) : Type 0 where
  pub taker : T

-- these bytes of a segment were fed, and their entries were taken
pub record HasFed (read : List ℕ) (t : Fed) (before after : List Entry) : Type 0 where
  pub same : (later : List Piece) → reading page_size (t.pieces ++ later) ≡ reading_after page_size read later
  pub stops : (later : List Piece) → stop_after page_size 0 [] (t.pieces ++ later) ≡ stop_after page_size 0 read later
  pub has : HasTaken t (entries t.pieces)
  pub taken : after ≡ before ++ entries t.pieces

-- the fault at which reading stopped, with its offset
abbrev pub IsPlaced : List Piece → Option TailFault → Option SegmentFault → Type 0
IsPlaced pieces None placed = placed ≡ None
IsPlaced pieces (Some f) placed = placed ≡ Some (record { fault = f; offset = (stop_after page_size 0 [] pieces).offset })

-- the fault of a segment, if it has one
abbrev pub IsFaultOf : List ℕ → Option SegmentFault → Type 0
IsFaultOf text None = fault (ended text) ≡ None
IsFaultOf text (Some f) = HasFault text f.fault f.offset

-- how many entries a segment has
abbrev pub entry_count : List ℕ → ℕ
entry_count text = length (segment page_size text).entries

-- what was read of a segment: its number of entries, and its fault
pub record IsReadOf (text : List ℕ) (read : SegmentRead) : Type 0 where
  pub count : read.entries ≡ entry_count text
  pub fault_is : IsFaultOf text read.fault

-- a segment was read, and its entries were taken
pub record ReadsSegment (text : List ℕ) (read : SegmentRead) (before after : List Entry) : Type 0 where
  pub is_read : IsReadOf text read
  pub taken : after ≡ before ++ (segment page_size text).entries
