use Rattle.std.proofs.Common.{◌∙◌, sym, subst}
use Rattle.rw_head.specs.Placed.{Placing}
use Rattle.rw_head.specs.inner.Growth.{HoldsNoneRefused}
use Rattle.rw_head.proofs.PlacedLemmas.{Answers, settled_ready, settled_answers, one_at, gives_one}
use Rattle.rw_head.proofs.placed_head.PlacedHead.apply_at.Given.{Over}
use Rattle.rw_head.proofs.placed_head.PlacedHead.apply_at.Goals as goal

pub invariant_of-self : goal.invariant_of-self
invariant_of-self g c =
    let table = c.self.inside.table in
    let none = subst (HoldsNoneRefused c.self.inside.bounds) (sym c.self.invariant.0.settled) c.self.invariant.1 in
    let gives = gives_one c.stage_placed-staged.result c.self.inside.bounds table.staged c.stage_placed-staged.new.self.staged table.placed c.args.place c.args.t c.args.word c.ranges.t (c.stage_placed-staged.ensures.staged c.self.inside.bounds none) in
    let ready = settled_ready c.stage_placed-staged.result c.self.inside.bounds (one_at table.placed c.args.place c.args.t c.args.word) table c.stage_placed-staged.new.self c.settle.new.table c.settle.result
    c.self.invariant.0 c.self.invariant.1 c.stage_placed-staged.ensures.kept gives c.settle.ensures.settled c.settle.ensures.staged c.settle.ensures.noted in
    (ready.0, ready.1, c.settle.ensures.forgets ∙ c.stage_placed-staged.ensures.forgets ∙ c.self.invariant.2)

-- what comes of the sample
answers : (g : Over) (c : goal.After-settle g) → Answers c.args.self.now.head.limits (one_at c.args.self.now.places c.args.place c.args.t c.args.word) c.args.self.now.head.store c.settle.new.table.kept c.settle.result
answers g c =
    let table = c.self.inside.table in
    let none = subst (HoldsNoneRefused c.self.inside.bounds) (sym c.self.invariant.0.settled) c.self.invariant.1 in
    let gives = gives_one c.stage_placed-staged.result c.self.inside.bounds table.staged c.stage_placed-staged.new.self.staged table.placed c.args.place c.args.t c.args.word c.ranges.t (c.stage_placed-staged.ensures.staged c.self.inside.bounds none) in
    subst (λ (p : Placing). Answers p.head.limits (one_at p.places c.args.place c.args.t c.args.word) p.head.store c.settle.new.table.kept c.settle.result) c.self.view_is
    (settled_answers c.stage_placed-staged.result c.self.inside.bounds (one_at table.placed c.args.place c.args.t c.args.word) table c.stage_placed-staged.new.self c.settle.new.table c.settle.result
    c.self.invariant.0 c.stage_placed-staged.ensures.kept gives c.settle.ensures.settled)

pub returns-clause-verdict : goal.returns-clause-verdict
returns-clause-verdict g c = (answers g c).verdict

pub returns-clause-store : goal.returns-clause-store
returns-clause-store g c = (answers g c).store

pub returns-clause-no_memory : goal.returns-clause-no_memory
returns-clause-no_memory g c = (answers g c).no_memory
