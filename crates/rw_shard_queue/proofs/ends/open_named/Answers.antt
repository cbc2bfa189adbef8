use Rattle.rw_shard_queue.proofs.Moves.{begins, opens}
use Rattle.rw_shard_queue.proofs.ends.open_named.Goals as goal

pub bounded_with-requires-clause-rule : goal.bounded_with-requires-clause-rule
bounded_with-requires-clause-rule g c = begins

pub another-other-requires-clause-rule : goal.another-other-requires-clause-rule
another-other-requires-clause-rule g c = opens _ _ _ c.in_ok-sender.ensures.3
