use Rattle.rw_kept_head.specs.Admitted.{label_limits}
use Rattle.rw_kept_head.proofs.OpeningLemmas.{still_made}
use Rattle.rw_kept_head.proofs.head_reading.HeadReadingSegmentTaker.take.Goals as goal

pub invariant_of-self : goal.invariant_of-self
invariant_of-self g c = still_made c.take.result c.self.inside.log c.take.new.self (label_limits c.self.inside.limits) c.self.inside.limits.busy_first c.take.ensures.fixed c.take.ensures.failed c.take.ensures.ready c.self.invariant
