use Rattle.rw_head.proofs.BlockLemmas.{sealed_full}
use Rattle.rw_head.proofs.head.Head.sealed.Goals as goal

pub returns-clause-full : goal.returns-clause-full
returns-clause-full c = rw c.sealed.ensures (sealed_full _)
