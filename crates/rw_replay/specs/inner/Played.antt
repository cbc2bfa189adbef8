-- Inner definitions beside those of Played.antt: only invariants, private functions and
-- proofs use them.
use Rattle.std.specs.Prelude.{◌*◌, ◌<◌, ◌≤◌, length}
use Rattle.rw_replay.specs.ScriptText.{Order, logged}

-- a record that the writer of a segment takes: of 1 byte to 16 MiB
abbrev pub IsWritable : Order → Type 0
IsWritable (logged rec) = (0 < length rec) × (length rec ≤ 16 * 1024 * 1024)
IsWritable _ = Unit {0}
