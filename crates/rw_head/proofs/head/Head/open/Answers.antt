use Rattle.rw_head.proofs.BlockLemmas.{sealed_whole}
use Rattle.rw_head.proofs.head.Head.open.Goals as goal

pub returns-clause-samples : goal.returns-clause-samples
returns-clause-samples c = rw (← c.self.view_is, c.open.ensures.samples) (sealed_whole _)
