use Rattle.std.proofs.Common.{List, subst}
use Rattle.std.proofs.lemmas.List.{take_all}
use Rattle.rw_head.specs.Order.{Point}
use Rattle.rw_decimal.specs.DecimalStore.{IsPointText}
use Rattle.rw_decimal.proofs.PartLemmas.{Wrote, wrote_none, wrote_next}
use Rattle.rw_decimal.proofs.held.push_points.Goals as goal

pub loop-point-init : goal.loop-point-init
loop-point-init c = wrote_none IsPointText c.args.out.now.items

pub loop-point-preserved : goal.loop-point-preserved
loop-point-preserved c =
    let p = c.in_ok-push_point.ensures in
    wrote_next IsPointText c.args.points.now c.loop-point.point-index c.point-item.result c.args.out.now.items c.loop-point.out.items c.push_point.new.out.items p.0 c.loop-point-test.true c.loop-point.invariant p.1
    (subst (λ (q : Point). IsPointText q p.0) c.point-item.is p.2)

pub returns : goal.returns
returns c = subst (λ (ps : List Point). Wrote IsPointText ps c.args.out.now.items c.loop-point.out.items) (take_all c.loop-point.point-index c.args.points.now c.loop-point-test.false) c.loop-point.invariant
