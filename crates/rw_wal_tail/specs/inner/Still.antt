-- What a reader still reads.
use Rattle.std.specs.Prelude.{ℕ, List, ◌++◌, Option, Some, None, Bool, true, false}
use Rattle.rw_types.specs.declared.entry.Entry.{Entry}
use Rattle.rw_wal_format.specs.declared.skipped_type.SkippedType.{SkippedType}
use Rattle.rw_wal_format.specs.Segments.{Reading, Record, at_fault, stopped}
use Rattle.rw_wal_format.specs.Pieces.{Piece, page_size}
use Rattle.rw_wal_format.proofs.shared.Tailing.{read_on}
use Rattle.rw_wal_format.specs.declared.tail_fault.TailFault.{TailFault}

-- first these entries and skipped records of these types, and then a reading
abbrev pub after : List Entry → List SkippedType → Reading → Reading
after front n r = record { entries = front ++ r.entries; skipped = n ++ r.skipped; stop = r.stop }

-- the record that is open, which is a Snappy block or not
abbrev pub open_data : Bool → Bool → List ℕ → Option Record
open_data true is_block d = Some (is_block, d)
open_data false is_block d = None

-- the reading from a place on, or nothing after a fault
abbrev pub from_here : Option TailFault → Bool → ℕ → Option Record → List ℕ → List Piece → Reading
from_here None c left so_far rest later = read_on c page_size left so_far rest later
from_here (Some f) c left so_far rest later = stopped (at_fault f)

-- the entries that are ready, and then the reading of the bytes in the buffer, of the pieces that
-- wait and of those that come later
unfoldable pub still : List Entry → List SkippedType → Option TailFault → Bool → ℕ → Option Record → List ℕ → List Piece → List Piece → Reading
still ready passed fault c left so_far rest waiting later = after ready passed (from_here fault c left so_far rest (waiting ++ later))
