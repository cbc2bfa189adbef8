-- What is written of one record.
use Rattle.std.specs.Prelude.{◌≡◌, ℕ, ◌+◌, List, length, false}
use Rattle.rw_wal_format.specs.Pieces.{page_size}
use Rattle.rw_wal_format.specs.Writing.{log_bytes}
use Rattle.rw_wal_write.specs.Segment.{IsPlace}
use Rattle.rw_replay.specs.Played.{segment_pages, is_full}

-- A record had room after this many bytes of a segment: these are its bytes, and this is where they
-- end.
pub record IsWritten (offset : ℕ) (rec bytes : List ℕ) (end : ℕ) : Type 0 where
  pub room : is_full offset rec ≡ false
  pub bytes_are : bytes ≡ log_bytes page_size offset rec
  pub end_is : end ≡ offset + length (log_bytes page_size offset rec)
  pub place : IsPlace segment_pages end
