use Rattle.rw_kept_log.proofs.GreatestLemmas.{greatest_more}
use Rattle.rw_kept_log.proofs.greatest.GreatestTaker.take.Goals as goal

pub invariant_of-self-2 : goal.invariant_of-self-2
invariant_of-self-2 g c = greatest_more _ _ _ _ _ c.self.invariant c.greater-greatest.ensures c.in_ok-take.ensures.taken
