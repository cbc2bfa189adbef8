use Rattle.std.proofs.Common.{ap, length, arith}
use Rattle.rw_types.proofs.shared.JudgeLemmas.{too_long}
use Rattle.rw_types.proofs.judge.are_longer_than.Goals as goal

pub returns-then-len-left : goal.returns-then-len-left
returns-then-len-left g c =
    too_long g.L.LabelBytes.shown c.args.labels.now c.loop-label.label-index c.label-item.result c.loop-label.left c.args.most c.loop-label-test.true c.label-item.is
    c.loop-label.invariant (omega (arith, ap length c.name.ensures, ap length c.value.ensures))
