-- Where a segment may be read on after other bytes than its own.
use Rattle.std.specs.Prelude.{◌≡◌, ℕ, ◌%◌, List, [], length, Bool}
use Rattle.rw_wal_format.specs.Pieces.{page_size}
use Rattle.rw_wal_format.specs.Segments.{between, segment_in}
use Rattle.rw_wal_tail.specs.Places.{stop_offset_in}

-- A record ends with this text, or the text is empty: each item is whole, and no record is open.
pub record EndsRecord (c : Bool) (page : ℕ) (text : List ℕ) : Type 0 where
  pub stop : (segment_in c page text).stop ≡ between
  pub all : stop_offset_in c page text ≡ length text

-- This may be read in place of `count` first bytes of a segment, if a record ends with them: it has
-- no entry, and a record ends with it at the same place of a page.
pub record IsInPlaceOf (count : ℕ) (front : List ℕ) : Type 0 where
  pub ends : (c : Bool) → EndsRecord c page_size front
  pub none : (c : Bool) → (segment_in c page_size front).entries ≡ []
  pub place : length front ≡ count % page_size
