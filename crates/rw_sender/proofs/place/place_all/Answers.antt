use Rattle.std.proofs.Common.{◌<◌, refl, ◌∙◌, subst, arith}
use Rattle.rw_fleet.proofs.shared.LaneLemmas.{same_self}
use Rattle.rw_sender.specs.inner.Shipping.{Steps}
use Rattle.rw_sender.specs.declared.place.Progress.{Progress}
use Rattle.rw_sender.proofs.CutLemmas.{goes_cut_self, goes_cut_on}
use Rattle.rw_sender.proofs.TimeLemmas.{spanned_on, spanned_same}
use Rattle.rw_sender.proofs.shared.ShippingLemmas.{goes_same, goes_next}
use Rattle.rw_sender.proofs.place.place_all.Goals as goal

pub loop-init : goal.loop-init
loop-init g c = (c.requires.hand, goes_same _ _ _ _ refl, c.requires.places, refl, goes_cut_self _ _ c.requires.counted, spanned_same c.args.span.now _ _ (same_self c.args.fleet.now.current) c.requires.since)

pub place_next-requires-clause-hand : goal.place_next-requires-clause-hand
place_next-requires-clause-hand g c κs within = c.loop.invariant.0

pub place_next-requires-clause-some : goal.place_next-requires-clause-some
place_next-requires-clause-some g c κs within = let len = c.loop.invariant.1.len in let some = c.requires.some in omega arith

pub place_next-requires-clause-places : goal.place_next-requires-clause-places
place_next-requires-clause-places g c κs within = c.loop.invariant.2

pub loop-preserved : goal.loop-preserved
loop-preserved g c = (subst (λ (p : Progress). Steps c.place_next.new.feeder c.loop.span.most p) c.in-Placed.is c.in_ok-place_next.ensures.ok, goes_next _ _ _ _ _ _ _ _ c.loop.invariant.3 c.loop.invariant.1 c.place_next.ensures.goes, c.place_next.ensures.places, c.place_next.ensures.limit ∙ c.loop.invariant.3, goes_cut_on _ _ _ _ _ _ c.loop.invariant.3 c.loop.invariant.4 c.in_ok-place_next.ensures.cut, spanned_on _ _ _ _ _ _ c.loop.invariant.5 c.place_next.ensures.spanned)

pub returns-in_err-place_next-clause-goes : goal.returns-in_err-place_next-clause-goes
returns-in_err-place_next-clause-goes g c = goes_next _ _ _ _ _ _ _ _ c.loop.invariant.3 c.loop.invariant.1 c.place_next.ensures.goes

pub returns-in_err-place_next-clause-places : goal.returns-in_err-place_next-clause-places
returns-in_err-place_next-clause-places g c = c.place_next.ensures.places

pub returns-in-End-clause-ok : goal.returns-in-End-clause-ok
returns-in-End-clause-ok g c = subst (λ (p : Progress). Steps c.place_next.new.feeder c.loop.span.most p) c.in-End.is c.in_ok-place_next.ensures.ok

pub returns-in-End-clause-goes : goal.returns-in-End-clause-goes
returns-in-End-clause-goes g c = goes_next _ _ _ _ _ _ _ _ c.loop.invariant.3 c.loop.invariant.1 c.place_next.ensures.goes

pub returns-in-End-clause-places : goal.returns-in-End-clause-places
returns-in-End-clause-places g c = c.place_next.ensures.places

pub returns-in-Damaged-clause-ok : goal.returns-in-Damaged-clause-ok
returns-in-Damaged-clause-ok g c = subst (λ (p : Progress). Steps c.place_next.new.feeder c.loop.span.most p) c.in-Damaged.is c.in_ok-place_next.ensures.ok

pub returns-in-Damaged-clause-goes : goal.returns-in-Damaged-clause-goes
returns-in-Damaged-clause-goes g c = goes_next _ _ _ _ _ _ _ _ c.loop.invariant.3 c.loop.invariant.1 c.place_next.ensures.goes

pub returns-in-Damaged-clause-places : goal.returns-in-Damaged-clause-places
returns-in-Damaged-clause-places g c = c.place_next.ensures.places

pub place_next-requires-clause-counted : goal.place_next-requires-clause-counted
place_next-requires-clause-counted g c κs within = c.loop.invariant.4.counted

pub returns-in-End-clause-cut : goal.returns-in-End-clause-cut
returns-in-End-clause-cut g c = goes_cut_on _ _ _ _ _ _ c.loop.invariant.3 c.loop.invariant.4 c.in_ok-place_next.ensures.cut

pub returns-in-Damaged-clause-cut : goal.returns-in-Damaged-clause-cut
returns-in-Damaged-clause-cut g c = goes_cut_on _ _ _ _ _ _ c.loop.invariant.3 c.loop.invariant.4 c.in_ok-place_next.ensures.cut

pub place_next-requires-clause-since : goal.place_next-requires-clause-since
place_next-requires-clause-since g c κs within = c.loop.invariant.5.since

pub returns-in_err-place_next-clause-spanned : goal.returns-in_err-place_next-clause-spanned
returns-in_err-place_next-clause-spanned g c = spanned_on _ _ _ _ _ _ c.loop.invariant.5 c.place_next.ensures.spanned

pub returns-in-End-clause-spanned : goal.returns-in-End-clause-spanned
returns-in-End-clause-spanned g c = spanned_on _ _ _ _ _ _ c.loop.invariant.5 c.place_next.ensures.spanned

pub returns-in-Damaged-clause-spanned : goal.returns-in-Damaged-clause-spanned
returns-in-Damaged-clause-spanned g c = spanned_on _ _ _ _ _ _ c.loop.invariant.5 c.place_next.ensures.spanned

pub returns-in-Late-clause-ok : goal.returns-in-Late-clause-ok
returns-in-Late-clause-ok g c =
    let s = subst (λ (p : Progress). Steps c.place_next.new.feeder c.loop.span.most p) c.in-Late.is c.in_ok-place_next.ensures.ok in
    (s.0, subst (λ n. n < 18446744073709551615) c.loop.invariant.5.most s.1)

pub returns-in-Late-clause-goes : goal.returns-in-Late-clause-goes
returns-in-Late-clause-goes g c = goes_next _ _ _ _ _ _ _ _ c.loop.invariant.3 c.loop.invariant.1 c.place_next.ensures.goes

pub returns-in-Late-clause-cut : goal.returns-in-Late-clause-cut
returns-in-Late-clause-cut g c = goes_cut_on _ _ _ _ _ _ c.loop.invariant.3 c.loop.invariant.4 c.in_ok-place_next.ensures.cut

pub returns-in-Late-clause-places : goal.returns-in-Late-clause-places
returns-in-Late-clause-places g c = c.place_next.ensures.places

pub returns-in-Late-clause-spanned : goal.returns-in-Late-clause-spanned
returns-in-Late-clause-spanned g c = spanned_on _ _ _ _ _ _ c.loop.invariant.5 c.place_next.ensures.spanned
