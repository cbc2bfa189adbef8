use Rattle.std.proofs.Common.{◌≡◌, ◌++◌, take, length}
use Rattle.rw_plain_queue.specs.Items.{places_in}
use Rattle.rw_shard_core.specs.Shard.{positions_of}
use Rattle.rw_world.proofs.shard.add_queued.Given as goal

abbrev pub invariant-loop-item : goal.invariant-loop-item
invariant-loop-item l = l.positions.items ≡ l.fn.positions.items ++ positions_of (places_in (take (length l.yielded) l.queue.items))
