use Rattle.std.proofs.Common.{ap, ◌∙◌}
use Rattle.rw_head.proofs.shared.GrowthLemmas.{ready_first}
use Rattle.rw_head.proofs.head.Head.with_memory.Goals as goal

pub invariant_of-result : goal.invariant_of-result
invariant_of-result g c = let ready = ready_first _ _ _ c.new.ensures in (ready.0, ready.1, ap (λ s. s.forgets) c.new.ensures ∙ c.forgets.ensures)
