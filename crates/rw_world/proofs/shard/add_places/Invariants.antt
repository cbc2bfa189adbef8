use Rattle.std.proofs.Common.{◌≡◌, ◌++◌, take}
use Rattle.rw_shard_core.specs.Shard.{positions_of}
use Rattle.rw_world.proofs.shard.add_places.Given as goal

abbrev pub invariant-loop-place : goal.invariant-loop-place
invariant-loop-place l = l.positions.items ≡ l.fn.positions.items ++ positions_of (take l.place-index l.places)
