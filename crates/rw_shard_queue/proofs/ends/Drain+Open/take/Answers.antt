use Rattle.rw_shard_queue.proofs.Moves.{takes}
use Rattle.rw_shard_queue.proofs.ends.Drain+Open.take.Goals as goal

pub recv_as-requires-clause-rule : goal.recv_as-requires-clause-rule
recv_as-requires-clause-rule g c = (takes _ _ c.self.invariant.2, λ items views h at. tt)
