use Rattle.rw_shard_queue.specs.inner.Spares.{AreEmpty}
use Rattle.rw_shard_queue.proofs.spares.empty_blocks.Given as goal

abbrev pub invariant-loop : goal.invariant-loop
invariant-loop l = AreEmpty l.most l.blocks.items
