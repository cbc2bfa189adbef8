-- Inner definitions beside those of Guards.antt: only invariants, private functions and
-- proofs use them.
use Rattle.std.specs.Prelude.{◌≡◌, true, Option, None, Some}
use Rattle.rw_machine.specs.Shards.{Shard}
use Rattle.rw_world.specs.Guards.{is_open}

-- there is a shard, and its batch is open
abbrev pub IsOpen : Option Shard → Type 0
IsOpen None = ⊥
IsOpen (Some s) = is_open s ≡ true
