-- How a segment is read again.
use Rattle.std.specs.Prelude.{◌≡◌, ℕ, List, [], ◌∷◌, fold, nat_lt, Some, if◌then◌else◌}
use Rattle.rw_types.specs.declared.entry.Entry.{Entry}
use Rattle.rw_types.specs.declared.entry.Entry.TheVariants.{Def, Sample}
use Rattle.rw_wal_format.specs.Pieces.{Piece, bytes, next_segment, fault, page_size}
use Rattle.rw_wal_format.specs.declared.tail_fault.TailFault.{TailFault}
use Rattle.rw_wal_tail.specs.Places.{stop_offset}

-- the greatest reference that is defined, with one more entry
abbrev pub greater : ℕ → Entry → ℕ
greater n (Def r labels) = if nat_lt n r then r else n
greater n (Sample r t w) = n

-- the greatest reference that is defined, with more entries
abbrev pub greatest_after : ℕ → List Entry → ℕ
greatest_after n es = fold greater n es

-- the pieces of a segment that has ended
abbrev pub ended : List ℕ → List Piece
ended text = bytes text ∷ next_segment ∷ []

-- a segment that ends has this fault, at this offset
pub record HasFault (text : List ℕ) (f : TailFault) (offset : ℕ) : Type 0 where
  pub fault_is : fault (ended text) ≡ Some f
  pub at : offset ≡ stop_offset page_size text
