use Rattle.std.proofs.Common.{arith}
use Rattle.rw_world.proofs.PendingLemmas.{shard_step}
use Rattle.rw_world.proofs.shards.add_pending.Goals as goal

pub loop-shard-preserved : goal.loop-shard-preserved
loop-shard-preserved c = shard_step c.add_pending.new.positions.items c.loop-shard.positions.items c.args.positions.now.items c.args.shards.now c.loop-shard.shard-index c.shard-item.result (omega arith) c.shard-item.is c.in_ok-add_pending.ensures c.loop-shard.invariant
