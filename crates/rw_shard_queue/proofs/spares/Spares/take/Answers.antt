use Rattle.rw_shard_queue.proofs.SparesLemmas.{reuses}
use Rattle.rw_shard_queue.proofs.spares.Spares.take.Goals as goal

pub recv_as-requires-clause-rule : goal.recv_as-requires-clause-rule
recv_as-requires-clause-rule g c = (reuses _ _ c.self.invariant.1, λ items views h at. tt)
