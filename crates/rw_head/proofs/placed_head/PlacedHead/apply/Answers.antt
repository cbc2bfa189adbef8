use Rattle.std.proofs.Common.{◌∙◌, subst}
use Rattle.rw_head.specs.Placed.{Placing}
use Rattle.rw_head.proofs.PlacedLemmas.{Answers, settled_ready, settled_answers}
use Rattle.rw_head.proofs.placed_head.PlacedHead.apply.Given.{Over}
use Rattle.rw_head.proofs.placed_head.PlacedHead.apply.Goals as goal

pub invariant_of-self : goal.invariant_of-self
invariant_of-self g c =
    let ready = settled_ready c.stage_lent-staged.result c.self.inside.bounds c.args.series.now c.self.inside.table c.stage_lent-staged.new.self c.settle.new.table c.settle.result
    c.self.invariant.0 c.self.invariant.1 c.stage_lent-staged.ensures.kept c.stage_lent-staged.ensures.staged c.settle.ensures.settled c.settle.ensures.staged c.settle.ensures.noted in
    (ready.0, ready.1, c.settle.ensures.forgets ∙ c.stage_lent-staged.ensures.forgets ∙ c.self.invariant.2)

-- what comes of the series
answers : (g : Over) (c : goal.After-settle g) → Answers c.args.self.now.head.limits c.args.series.now c.args.self.now.head.store c.settle.new.table.kept c.settle.result
answers g c =
    subst (λ (p : Placing). Answers p.head.limits c.args.series.now p.head.store c.settle.new.table.kept c.settle.result) c.self.view_is
    (settled_answers c.stage_lent-staged.result c.self.inside.bounds c.args.series.now c.self.inside.table c.stage_lent-staged.new.self c.settle.new.table c.settle.result
    c.self.invariant.0 c.stage_lent-staged.ensures.kept c.stage_lent-staged.ensures.staged c.settle.ensures.settled)

pub returns-clause-verdict : goal.returns-clause-verdict
returns-clause-verdict g c = (answers g c).verdict

pub returns-clause-store : goal.returns-clause-store
returns-clause-store g c = (answers g c).store

pub returns-clause-no_memory : goal.returns-clause-no_memory
returns-clause-no_memory g c = (answers g c).no_memory
