use Rattle.rw_log_read.proofs.shared.HereLemmas.{counted_none}
use Rattle.rw_log_read.proofs.counting.Counting.new.Goals as goal

pub invariant_of-result : goal.invariant_of-result
invariant_of-result g c = counted_none _ _ _ _ c.requires c.new.ensures c.new-2.ensures c.new-3.ensures
