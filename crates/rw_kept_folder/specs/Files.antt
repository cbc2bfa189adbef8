-- What two kinds of sync make sure of: the bytes of the last segment, and that the folder has it.
use Rattle.std.specs.Prelude.{◌≡◌, length}
use Rattle.rw_kept_log.specs.Journal.{Segments}

-- a crash leaves as many segments as these
abbrev pub HasAll : Segments → (Segments → Type 0) → Type 0
HasAll segments outcomes = (c : Segments) → outcomes c → length c ≡ length segments

-- if a crash leaves as many segments as these, it leaves these
abbrev pub IsSureIfAll : Segments → (Segments → Type 0) → Type 0
IsSureIfAll segments outcomes = (c : Segments) → outcomes c → length c ≡ length segments → c ≡ segments
