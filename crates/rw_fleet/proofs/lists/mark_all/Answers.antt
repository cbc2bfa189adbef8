use Rattle.std.proofs.Common.{◌≡◌, ◌<◌, length, refl, arith}
use Rattle.rw_fleet.proofs.shared.LaneLemmas.{marks_next, marks_same, marks_whole, marks_kept}
use Rattle.rw_fleet.proofs.lists.mark_all.Goals as goal

pub returns-in_err-mark-clause-same : goal.returns-in_err-mark-clause-same
returns-in_err-mark-clause-same g c = marks_kept _ _ _ _ _ _ c.loop-k.invariant.0 c.index_mut.ensures.value c.in_err-mark.ensures.put refl

pub loop-k-preserved : goal.loop-k-preserved
loop-k-preserved g c =
    let i = c.loop-k.invariant in
    let below : c.loop-k.k < length c.args.running.now.items = let t = c.loop-k-test.true in let n = c.len-k-end.ensures in let m = c.args.running.now.ok.0 in omega arith in
    (marks_next _ _ _ _ _ _ _ i.0 below refl c.index_mut.ensures.value c.mark.ensures.setup c.in_ok-mark.ensures.put refl, i.1, i.2)

pub returns-clause-same : goal.returns-clause-same
returns-clause-same g c = marks_same _ _ _ c.loop-k.invariant.0

pub returns-clause-all : goal.returns-clause-all
returns-clause-all g c =
    let whole : c.loop-k.k ≡ length c.args.running.now.items = let t = c.loop-k-test.false in let e = c.loop-k.auto.k-end in let n = c.len-k-end.ensures in let m = c.args.running.now.ok.0 in omega arith in
    marks_whole _ _ _ c.loop-k.invariant.0 whole
