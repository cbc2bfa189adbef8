use Rattle.rw_shard_queue.proofs.Moves.{closes, compares, met}
use Rattle.rw_shard_queue.proofs.whole.compare.Goals as goal

pub absorb-requires-clause-rule : goal.absorb-requires-clause-rule
absorb-requires-clause-rule g c = closes _ _ _ _ c.feed.invariant.1 c.drain.invariant.2

pub learn_as-requires-clause-rule : goal.learn_as-requires-clause-rule
learn_as-requires-clause-rule g c = compares _ _ (met _ _ _ _ c.absorb.ensures.rule)
