use Rattle.rw_log_read.proofs.shared.HereLemmas.{counted_begun}
use Rattle.rw_log_read.proofs.counting.Counting.begin.Goals as goal

pub invariant_of-self : goal.invariant_of-self
invariant_of-self g c = counted_begun _ _ _ _ _ _ c.self.invariant c.again.ensures c.new-self-inside.ensures
