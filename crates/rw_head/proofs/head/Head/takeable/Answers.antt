use Rattle.std.proofs.Common.{subst, sym, ◌∙◌}
use Rattle.rw_head.specs.inner.Growth.{HoldsNoneRefused}
use Rattle.rw_head.proofs.shared.GrowthLemmas.{ready_still}
use Rattle.rw_head.proofs.head.Head.takeable.Goals as goal

pub invariant_of-self : goal.invariant_of-self
invariant_of-self g c = (
  ready_still c.self.inside.table c.stage_message-taken.new.table c.abort.new.self c.self.invariant.0 c.stage_message-taken.ensures.kept c.abort.ensures.kept c.abort.ensures.staged c.abort.ensures.noted,
  subst (HoldsNoneRefused c.self.inside.bounds) (sym (c.abort.ensures.kept ∙ c.stage_message-taken.ensures.kept)) c.self.invariant.1,
  c.abort.ensures.forgets ∙ c.stage_message-taken.ensures.forgets ∙ c.self.invariant.2,
)
