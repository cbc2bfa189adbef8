use Rattle.rw_log_read.proofs.shared.HereLemmas.{counted_more}
use Rattle.rw_log_read.proofs.counting.CountingTaker.take.Goals as goal

pub invariant_of-self-2 : goal.invariant_of-self-2
invariant_of-self-2 g c = counted_more _ _ _ _ _ _ _ _ _ c.self.invariant c.in_ok-take.ensures.taken c.again-taken.ensures c.push.ensures c.in_ok-sums.ensures
