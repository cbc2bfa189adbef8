-- Where the first fault of a log is (wal.md, "Segment encoding"): the segment, and the offset in it
-- of the fragment at which it is found. A segment is read an item at a time: a fragment, or the
-- zeros to its page's end. The place is the first byte of the item at which reading stops: the one
-- that is not an item, that is out of sequence, or that ends a malformed record. If a segment ends
-- inside a record, it is that of the item that is not whole there, or the end of the segment if
-- each is whole.
use Rattle.std.specs.Prelude.{ℕ, zero, suc, ◌+◌, List, [], ◌∷◌, ◌++◌, length, drop, Bool, false, Option, Some, None}
use Rattle.rw_types.specs.declared.entry.Entry.{Entry}
use Rattle.rw_wal_format.specs.Segments.{Kind, Item, nothing, begun, zeros, fragment, wrong, item_in, Stop, between, left_after, Record, entries_in, Joined, still_open, complete, out_of_sequence, joined, segment_in}
use Rattle.rw_wal_format.specs.Pieces.{Piece, bytes, next_segment, may_compress, compresses_after, page_size, fault}
use Rattle.rw_wal_format.specs.declared.tail_fault.TailFault.{TailFault}
use Rattle.rw_wal_tail.specs.declared.place.FaultPlace.{FaultPlace}

-- no record is open after a whole one, if it is of its type's form
abbrev pub closes : Option (List Entry) → Option (Option Record)
closes None = None
closes (Some es) = Some None

-- The record that is open after a fragment, if one is; or None if reading stops at it.
abbrev pub open_after : Joined → Option (Option Record)
open_after (still_open d) = Some (Some d)
open_after (complete d) = closes (entries_in d)
open_after out_of_sequence = None

abbrev pub opens : Option Record → Kind → List ℕ → Option (Option Record)
opens so_far kind d = open_after (joined so_far kind d)

-- first n bytes, and then those that `next` counts after them, unless reading stops here
abbrev pub count_after : ℕ → ℕ → ℕ → List ℕ → (ℕ → Option Record → List ℕ → ℕ) → Option (Option Record) → ℕ
count_after page left n text next None = 0
count_after page left n text next (Some so_far) = n + next (left_after page left n) so_far (drop n text)

-- how many bytes from an item on come before the item at which reading stops
abbrev pub count_from : ℕ → ℕ → Option Record → List ℕ → (ℕ → Option Record → List ℕ → ℕ) → Item → ℕ
count_from page left so_far text next nothing = 0
count_from page left so_far text next begun = 0
count_from page left so_far text next zeros = left + next page so_far (drop left text)
count_from page left so_far text next (fragment kind d) = count_after page left (7 + length d) text next (opens so_far kind d)
count_from page left so_far text next (wrong f) = 0

-- the same of the items one after the other, of which there are at most k
abbrev pub counted_items : Bool → ℕ → ℕ → ℕ → Option Record → List ℕ → ℕ
counted_items c page zero left so_far text = 0
counted_items c page (suc k) left so_far text = count_from page left so_far text (λ l o rest. counted_items c page k l o rest) (item_in c left text)

-- how many bytes of what is left of a segment are read, if a record may be open, with `left` bytes
-- of the first page
abbrev pub read_count : Bool → ℕ → ℕ → Option Record → List ℕ → ℕ
read_count c page left so_far rest = counted_items c page (length rest) left so_far rest

-- the offset in a segment's text of the item at which reading stops
unfoldable pub stop_offset_in : Bool → ℕ → List ℕ → ℕ
stop_offset_in c page text = read_count c page page None text

-- the same of a segment without Snappy blocks
abbrev pub stop_offset : ℕ → List ℕ → ℕ
stop_offset page text = stop_offset_in false page text

-- the place in segment n that stops so, or the one in the next segments
abbrev pub place_then : Stop → ℕ → ℕ → FaultPlace → FaultPlace
place_then between n offset next = next
place_then _ n offset next = record { segment = n; offset = offset }

-- where the reading of the pieces stops, in segment n or a later one, after some text of segment n,
-- which may have Snappy blocks or not
abbrev pub stop_in : Bool → ℕ → ℕ → List ℕ → List Piece → FaultPlace
stop_in c page n text [] = record { segment = n; offset = stop_offset_in c page text }
stop_in c page n text (bytes b ∷ pieces) = stop_in c page n (text ++ b) pieces
stop_in c page n text (next_segment ∷ pieces) = place_then (segment_in c page text).stop n (stop_offset_in c page text) (stop_in c page (n + 1) [] pieces)
stop_in c page n text (may_compress ∷ pieces) = stop_in (compresses_after c text) page n text pieces

-- the same after some text of a segment without Snappy blocks
abbrev pub stop_after : ℕ → ℕ → List ℕ → List Piece → FaultPlace
stop_after page n text pieces = stop_in false page n text pieces

-- the place of this fault, if there is one
abbrev pub place_of : Option TailFault → List Piece → Option FaultPlace
place_of None pieces = None
place_of (Some f) pieces = Some (stop_after page_size 0 [] pieces)

-- the place of the first fault, if there is one
unfoldable pub fault_place : List Piece → Option FaultPlace
fault_place pieces = place_of (fault pieces) pieces

-- the place of the fault that was answered, if one was
abbrev pub told_place : Option TailFault → List Piece → Option FaultPlace
told_place None pieces = None
told_place (Some f) pieces = fault_place pieces
