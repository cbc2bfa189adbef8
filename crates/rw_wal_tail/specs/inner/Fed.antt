-- Inner definitions beside those of Fed.antt: only invariants, private functions and
-- proofs use them.
use Rattle.std.specs.Prelude.{◌≡◌, ℕ, ◌<◌, ◌^◌, List, [], ◌++◌, length, Option, Some, None}
use Rattle.rw_types.specs.declared.entry.Entry.{Entry}
use Rattle.rw_wal_format.specs.Pieces as pieces
use Rattle.rw_wal_format.specs.Pieces.{page_size, reading}
use Rattle.rw_wal_format.specs.declared.tail_fault.TailFault.{TailFault}
use Rattle.rw_wal_tail.specs.declared.reader.Reader.{Reader}
use Rattle.rw_wal_format.proofs.shared.Tailing.{unmarked}
use Rattle.rw_wal_tail.specs.inner.Still.{after}
use Rattle.rw_wal_tail.specs.Places.{stop_after}
use Rattle.rw_wal_tail.specs.inner.Placed.{ends_after}
use Rattle.rw_wal_tail.specs.inner.Steps.{IsReader, still_read, still_place, Counts, IsKept}
use Rattle.rw_wal_tail.specs.Fed.{size_of}

-- whatever comes later, the reading is what was given and then what the reader still reads
pub record Follows (ps : List pieces.Piece) (given : List Entry) (r : Reader) : Type 0 where
  pub reader : IsReader r
  pub reads : (later : List pieces.Piece) → reading page_size (ps ++ unmarked later) ≡ after given [] (still_read r later)
  pub counts : Counts (ends_after 0 ps) r
  pub stops : (later : List pieces.Piece) → stop_after page_size 0 [] (ps ++ unmarked later) ≡ still_place r (ends_after 0 ps) later

-- nothing is ready, and this is the reader's fault, if there is one
abbrev pub IsStuck : Reader → Option TailFault → Type 0
IsStuck r None = Unit {0}
IsStuck r (Some f) = (r.fault ≡ Some f) × (r.ready.items ≡ [])

-- the same of a reader that has counted, and that has answered this fault, if any
pub record IsTail (r : Reader) (ps : List pieces.Piece) (given : List Entry) (count : ℕ) (told : Option TailFault) : Type 0 where
  pub follows : Follows ps given r
  pub counted : count ≡ length given
  pub bound : count < 2 ^ 60
  pub stuck : IsStuck r told
  pub kept : IsKept (size_of ps) r
