use Rattle.std.proofs.Common.{◌≡◌, ◌++◌, take}
use Rattle.rw_world.specs.inner.Sending.{all_pending}
use Rattle.rw_world.proofs.shards.add_pending.Given as goal

abbrev pub invariant-loop-shard : goal.invariant-loop-shard
invariant-loop-shard l = l.positions.items ≡ l.fn.positions.items ++ all_pending (take l.shard-index l.shards)
