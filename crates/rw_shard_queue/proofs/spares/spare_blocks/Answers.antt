use Rattle.std.proofs.Common.{◌<◌, sym, subst}
use Rattle.rw_shard_queue.proofs.SparesLemmas.{begins_empty, sizes}
use Rattle.rw_shard_queue.proofs.spares.spare_blocks.Goals as goal

pub bounded_with-requires-clause-rule : goal.bounded_with-requires-clause-rule
bounded_with-requires-clause-rule g c = begins_empty

pub another-other-requires-clause-rule : goal.another-other-requires-clause-rule
another-other-requires-clause-rule g c = sizes _ _ _ c.in_ok-sender.ensures.3 (subst (λ n. 0 < n) (sym c.requires.name) c.requires.some.1)
