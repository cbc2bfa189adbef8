-- A log: segments one after the other (wal.md). No record crosses segments.
use Rattle.std.specs.Prelude.{◌≡◌, ℕ, List, [], ◌∷◌, ◌++◌, length, Bool, false, flat_map}
use Rattle.rw_types.specs.declared.entry.Entry.{Entry}
use Rattle.rw_wal_format.specs.Segments.{Stop, between, inside, at_fault, Reading}
use Rattle.rw_wal_format.specs.Pieces.{Piece, bytes, next_segment, may_compress, compresses_after, page_size}
use Rattle.rw_wal_format.specs.declared.tail_fault.TailFault.{TailFault}
use Rattle.rw_wal_format.specs.declared.tail_fault.TailFault.TheVariants.{TornSegment}
use Rattle.rw_wal_tail.specs.declared.place.FaultPlace.{FaultPlace}
use Rattle.rw_wal_tail.specs.LayoutSegment.{IsSegment}

-- a segment: whether it may have Snappy blocks, and its text
abbrev pub SegmentText : Type 0
SegmentText = Bool × List ℕ

-- the segments, after some text of the first of them
abbrev pub segments_after : SegmentText → List Piece → List SegmentText
segments_after text [] = text ∷ []
segments_after text (bytes b ∷ pieces) = segments_after (text.0, text.1 ++ b) pieces
segments_after text (next_segment ∷ pieces) = text ∷ segments_after (text.0, []) pieces
segments_after text (may_compress ∷ pieces) = segments_after (compresses_after text.0 text.1, text.1) pieces

-- a log's segments: the bytes between two marks, joined
abbrev pub segments_of : List Piece → List SegmentText
segments_of pieces = segments_after (false, []) pieces

-- a segment with this reading, which ends between records
abbrev pub EndsBetween : ℕ → SegmentText → Reading → Type 0
EndsBetween page text r = (offset : ℕ) × IsSegment text.0 page text.1 r offset × (r.stop ≡ between)

-- each segment ends between records, and these are their readings
abbrev pub AllEndBetween : ℕ → List SegmentText → List Reading → Type 0
AllEndBetween page [] [] = Unit {0}
AllEndBetween page (text ∷ texts) (r ∷ rs) = EndsBetween page text r × AllEndBetween page texts rs
AllEndBetween page _ _ = ⊥

-- How a log stops at a segment that stops in this way. If another segment follows, there is a
-- fault: the one of the segment, or that its last record is not whole.
abbrev pub LogStops : List SegmentText → Stop → Stop → Type 0
LogStops [] own stop = stop ≡ own
LogStops (next ∷ later) between stop = ⊥
LogStops (next ∷ later) inside stop = stop ≡ at_fault TornSegment
LogStops (next ∷ later) (at_fault f) stop = stop ≡ at_fault f

-- A log's segments: whole ones, and then the one in which reading stops, which is the last one or
-- has the first fault. `place` is the number of that segment and the offset in it.
pub record IsLog (page : ℕ) (texts : List SegmentText) (reading : Reading) (place : FaultPlace) : Type 0 where
  pub whole : List SegmentText
  pub text : SegmentText
  pub later : List SegmentText
  pub parts : texts ≡ whole ++ text ∷ later
  pub number : length whole ≡ place.segment
  pub readings : List Reading
  pub are_whole : AllEndBetween page whole readings
  pub own : Reading
  pub is_segment : IsSegment text.0 page text.1 own place.offset
  pub entries : reading.entries ≡ flat_map (λ r. r.entries) readings ++ own.entries
  pub skipped : reading.skipped ≡ flat_map (λ r. r.skipped) readings ++ own.skipped
  pub stops : LogStops later own.stop reading.stop

-- the entries of a log, before its end or its first fault
abbrev pub HasEntries : List Piece → List Entry → Type 0
HasEntries pieces all =
    (r : Reading) × (place : FaultPlace) × IsLog page_size (segments_of pieces) r place
    × (r.entries ≡ all)

-- the first fault of a log, and its place
abbrev pub HasFirstFault : List Piece → TailFault → FaultPlace → Type 0
HasFirstFault pieces f place =
    (r : Reading) × IsLog page_size (segments_of pieces) r place × (r.stop ≡ at_fault f)
