use Rattle.std.proofs.Common.{◌-◌, sym, ◌∙◌, arith}
use Rattle.rw_types.proofs.shared.JudgeLemmas.{unsorted, sorted_on, sorted_end}
use Rattle.rw_types.proofs.judge.are_sorted.Goals as goal

pub returns-then-not-rise : goal.returns-then-not-rise
returns-then-not-rise g c =
    unsorted g.L.LabelBytes.shown c.args.labels.now (c.loop-i.i - 1) c.loop-i.i _ _ _ (omega arith) (omega arith) c.index-labels-i.is c.index-labels-i-in-loop-i.is
    c.loop-i.invariant (sym c.rise.ensures ∙ c.if-not-rise.true)

pub loop-i-preserved : goal.loop-i-preserved
loop-i-preserved g c =
    sorted_on g.L.LabelBytes.shown c.args.labels.now (c.loop-i.i - 1) c.loop-i.i _ _ _ _ (omega arith) (omega arith) c.index-labels-i.is c.index-labels-i-in-loop-i.is
    c.loop-i.invariant (sym c.rise.ensures ∙ c.if-not-rise.false) (omega arith)

pub returns : goal.returns
returns g c = sym (c.loop-i.invariant ∙ sorted_end g.L.LabelBytes.shown c.args.labels.now (c.loop-i.i - 1) (omega arith))
