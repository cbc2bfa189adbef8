use Rattle.rw_inspect.proofs.CounterLemmas.{counter_none}
use Rattle.rw_inspect.proofs.counter.Counter.new.Goals as goal

pub invariant_of-result : goal.invariant_of-result
invariant_of-result c = counter_none _ _ _ _ _ c.new.ensures c.legacy.ensures c.new-2.ensures c.new-3.ensures c.new-4.ensures
