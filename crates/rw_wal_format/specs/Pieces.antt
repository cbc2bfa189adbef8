-- A log that comes in pieces: bytes of the current segment, or the next segment.
use Rattle.std.specs.Prelude.{ℕ, ◌+◌, List, [], ◌∷◌, ◌++◌, Bool, true, false, Option, Some, None}
use Rattle.rw_types.specs.declared.entry.Entry.{Entry}
use Rattle.rw_wal_format.specs.Segments.{Reading, Stop, between, inside, at_fault, segment_in}
use Rattle.rw_wal_format.specs.declared.skipped_type.SkippedType.{SkippedType}
use Rattle.rw_wal_format.specs.declared.tail_fault.TailFault.{TailFault}
use Rattle.rw_wal_format.specs.declared.tail_fault.TailFault.TheVariants.{TornSegment}

-- what a reader is given next: more bytes of the segment, which may be empty, or the end of the
-- segment, after which the next begins
pub data Piece : Type 0 where
  bytes : List ℕ → Piece
  next_segment : Piece
  -- The segments that begin here and later ones may have records that are Snappy blocks. After a
  -- byte of its segment this changes nothing.
  may_compress : Piece

-- A segment that stops so, and then the next ones: a fault ends the reading, and so does a record
-- that is not whole, since no record crosses segments (wal.md).
abbrev pub then_after : Stop → Reading → Reading → Reading
then_after between r next = record { entries = r.entries ++ next.entries; skipped = r.skipped ++ next.skipped; stop = next.stop }
then_after inside r next = record { entries = r.entries; skipped = r.skipped; stop = at_fault TornSegment }
then_after (at_fault f) r next = r

-- a segment's reading, and then that of the next ones
abbrev pub then_next : Reading → Reading → Reading
then_next r next = then_after r.stop r next

-- whether a segment may have Snappy blocks, if this much of it came before `may_compress`
abbrev pub compresses_after : Bool → List ℕ → Bool
compresses_after c [] = true
compresses_after c (b ∷ text) = c

-- the pieces of a log, which may have Snappy blocks or has none, before the first one is fed
abbrev pub begun_log : Bool → List Piece
begun_log true = may_compress ∷ []
begun_log false = []

-- whether it may have Snappy blocks
abbrev pub is_marked : List Piece → Bool
is_marked (may_compress ∷ pieces) = true
is_marked _ = false

-- the reading of the pieces, after some text of the current segment, which may have Snappy blocks
-- or not
abbrev pub reading_in : Bool → ℕ → List ℕ → List Piece → Reading
reading_in c page text [] = segment_in c page text
reading_in c page text (bytes b ∷ pieces) = reading_in c page (text ++ b) pieces
reading_in c page text (next_segment ∷ pieces) = then_next (segment_in c page text) (reading_in c page [] pieces)
reading_in c page text (may_compress ∷ pieces) = reading_in (compresses_after c text) page text pieces

-- the same after some text of a segment without Snappy blocks
abbrev pub reading_after : ℕ → List ℕ → List Piece → Reading
reading_after page text pieces = reading_in false page text pieces

-- the reading of a log in pages of `page` bytes
unfoldable pub reading : ℕ → List Piece → Reading
reading page pieces = reading_after page [] pieces

-- the fault at which reading stops, if any
abbrev pub fault_at : Stop → Option TailFault
fault_at (at_fault f) = Some f
fault_at _ = None

-- a page has 32 KiB (wal.md)
abbrev pub page_size : ℕ
page_size = 32768

-- the entries of the whole records before the first fault; an entry's place in this list is its
-- position
abbrev pub entries : List Piece → List Entry
entries pieces = (reading page_size pieces).entries

-- the types of the records before the first fault that were passed over
abbrev pub skipped : List Piece → List SkippedType
skipped pieces = (reading page_size pieces).skipped

-- the first fault, if there is one
abbrev pub fault : List Piece → Option TailFault
fault pieces = fault_at (reading page_size pieces).stop
