-- Where the reading stops of what a reader still reads, and how many segments it counts.
use Rattle.std.specs.Prelude.{ℕ, ◌+◌, List, [], ◌∷◌, ◌++◌, Option, Some, None, Bool, true, false}
use Rattle.rw_wal_format.specs.Segments.{Stop, Record, read_from}
use Rattle.rw_wal_format.specs.Pieces.{Piece, bytes, next_segment, may_compress, page_size}
use Rattle.rw_wal_format.specs.declared.tail_fault.TailFault.{TailFault}
use Rattle.rw_wal_tail.specs.declared.place.FaultPlace.{FaultPlace}
use Rattle.rw_wal_tail.specs.Places.{read_count, place_then}
use Rattle.rw_wal_tail.specs.inner.Held.{Held}

-- the segments that have ended after n and these pieces
abbrev pub ends_with : ℕ → Piece → ℕ
ends_with n (bytes b) = n
ends_with n next_segment = n + 1
ends_with n may_compress = n

abbrev pub ends_after : ℕ → List Piece → ℕ
ends_after n [] = n
ends_after n (p ∷ ps) = ends_after (ends_with n p) ps

-- how reading stops, and at which offset, from an offset on
abbrev pub stop_at : Bool → ℕ → ℕ → Option Record → List ℕ → Stop × ℕ
stop_at c offset left so_far rest = ((read_from c page_size left so_far rest).stop, offset + read_count c page_size left so_far rest)

-- the place in a segment, or the one in the next segments
abbrev pub place_at : ℕ → Stop × ℕ → FaultPlace → FaultPlace
place_at n s next = place_then s.0 n s.1 next

-- the place that comes of the last segment, if `ends` have ended
abbrev pub place_on : Bool → ℕ → ℕ → ℕ → Option Record → List ℕ → ℕ → List Piece → FaultPlace
place_on c n offset left so_far rest ends [] = record { segment = n; offset = (stop_at c offset left so_far rest).1 }
place_on c n offset left so_far rest ends (bytes b ∷ more) = place_on c n offset left so_far (rest ++ b) ends more
place_on c n offset left so_far rest ends (next_segment ∷ more) = place_at n (stop_at c offset left so_far rest) (place_on c (ends + 1) 0 page_size None [] (ends + 1) more)
place_on c n offset left so_far rest ends (may_compress ∷ more) = place_on c n offset left so_far rest ends more

-- the same with the segments that wait
abbrev pub place_held : Bool → ℕ → ℕ → ℕ → Option Record → List ℕ → List (ℕ × List ℕ) → Bool → ℕ → List Piece → FaultPlace
place_held c n offset left so_far rest [] false ends more = place_on c n offset left so_far rest ends more
place_held c n offset left so_far rest [] true ends more = place_at n (stop_at c offset left so_far rest) (place_on c ends 0 page_size None [] ends more)
place_held c n offset left so_far rest (s ∷ ss) ended ends more =
    place_at n (stop_at c offset left so_far rest) (place_held c s.0 0 page_size None s.1 ss ended ends more)

-- the place of what comes at the front
abbrev pub front_of : Held → FaultPlace
front_of h = record { segment = h.segment; offset = h.offset }

-- the place where reading stops, also after a fault
abbrev pub place_from : Option TailFault → Bool → ℕ → Option Record → Held → ℕ → List Piece → FaultPlace
place_from None c left so_far h ends more = place_held c h.segment h.offset left so_far h.rest h.later h.ended ends more
place_from (Some f) c left so_far h ends more = front_of h
