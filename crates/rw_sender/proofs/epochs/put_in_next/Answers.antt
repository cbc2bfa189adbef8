use mir.Val.{SFits}
use mir.Syntax.{w64}
use Rattle.std.proofs.Common.{rules, inl, inr, refl, sym, ◌∙◌, subst}
use Rattle.std.proofs.lemmas.Result.{on_ok_weaker}
use Rattle.rw_sender.specs.Skews.{IsRenewed}
use Rattle.rw_sender.proofs.CutLemmas.{counted_fresh}
use Rattle.rw_sender.proofs.TimeLemmas.{since_fresh}
use Rattle.rw_sender.proofs.shared.SkewLemmas.{latest, longer_of, longer_self, on_err_so, putting_as, putting_of, renewed_of, skew_as, within_as, within_of}
use Rattle.rw_sender.proofs.shared.ListingLemmas.{room_still}
use Rattle.rw_sender.proofs.epochs.put_in_next.Goals as goal

pub put_sample-requires-clause-counted : goal.put_sample-requires-clause-counted
put_sample-requires-clause-counted g c κs within =
    let opened = c.in_ok-begin_epoch.ensures.opened in
    counted_fresh c.reset.new.self.limit c.reset.new.self.rooms _ _ c.begin_epoch.new.fleet.current c.reset.ensures.full opened.1 c.len-shards.ensures.within opened.2

pub put_sample-requires-clause-since : goal.put_sample-requires-clause-since
put_sample-requires-clause-since g c κs within = since_fresh _ _ _ c.in_ok-begin_epoch.ensures.opened.2

pub put_sample-requires-clause-takes : goal.put_sample-requires-clause-takes
put_sample-requires-clause-takes g c κs within =
    let fits : SFits w64 c.args.sample.t = search rules in
    latest c.new.result.earliest c.args.sample.t c.new.result.most c.new.ensures.earliest fits

pub put_sample-requires-clause-places : goal.put_sample-requires-clause-places
put_sample-requires-clause-places g c κs within = c.begin_epoch.ensures.places c.args.feeder.now c.requires.number c.requires.places

pub returns-in_err-begin_epoch-clause-longer : goal.returns-in_err-begin_epoch-clause-longer
returns-in_err-begin_epoch-clause-longer g c = longer_self c.args.feeder.now

pub returns-in_err-begin_epoch-clause-broken : goal.returns-in_err-begin_epoch-clause-broken
returns-in_err-begin_epoch-clause-broken g c = on_err_so _ _ (inl (c.requires.places, c.begin_epoch.ensures.config, c.begin_epoch.ensures.compared))

pub returns-in_err-begin_epoch-clause-places : goal.returns-in_err-begin_epoch-clause-places
returns-in_err-begin_epoch-clause-places g c = c.begin_epoch.ensures.places c.args.feeder.now c.requires.number c.requires.places

pub returns-clause-longer : goal.returns-clause-longer
returns-clause-longer g c = longer_of _ _ _ _ _ c.put_sample.ensures.goes

pub returns-clause-most : goal.returns-clause-most
returns-clause-most g c = c.put_sample.ensures.spanned.most ∙ c.new.ensures.most

pub returns-clause-begun : goal.returns-clause-begun
returns-clause-begun g c =
    let begun = c.in_ok-begin_epoch.ensures in
    let renewed = renewed_of c.args.feeder.now c.args.fleet.now c.begin_epoch.new.fleet c.requires.places begun.next begun.drained (begun.opened.0, begun.opened.1 ∙ c.len-shards.ensures.len, begun.opened.2) begun.config in
    on_ok_weaker c.put_sample.result (λ cut. (
      c.begin_epoch.new.fleet,
      renewed,
      within_as _ _ _ _ _ _ c.reset.ensures.limit c.new.ensures.most
          (within_of c.reset.new.self c.put_sample.new.cuts c.new.result c.put_sample.new.span _ _ _ _ c.put_sample.ensures.goes cut c.put_sample.ensures.spanned),
    )) c.put_sample.ensures.cut

pub returns-clause-broken : goal.returns-clause-broken
returns-clause-broken g c =
    let begun = c.in_ok-begin_epoch.ensures in
    let renewed = renewed_of c.args.feeder.now c.args.fleet.now c.begin_epoch.new.fleet c.requires.places begun.next begun.drained (begun.opened.0, begun.opened.1 ∙ c.len-shards.ensures.len, begun.opened.2) begun.config in
    let within = skew_as _ _ _ _ c.new.ensures.most c.put_sample.ensures.spanned.skew in
    on_err_so _ _ (inr (c.begin_epoch.new.fleet, renewed, putting_as _ _ _ _ c.reset.ensures.limit (putting_of _ _ _ _ _ c.put_sample.ensures.goes), within))

pub returns-clause-counted : goal.returns-clause-counted
returns-clause-counted g c = on_ok_weaker c.put_sample.result (λ cut. cut.counted) c.put_sample.ensures.cut

pub returns-clause-since : goal.returns-clause-since
returns-clause-since g c = on_ok_weaker c.put_sample.result (λ cut. c.put_sample.ensures.spanned.since) c.put_sample.ensures.cut

pub returns-clause-room : goal.returns-clause-room
returns-clause-room g c = room_still c.begin_epoch.new.fleet c.put_sample.new.fleet c.begin_epoch.new.samples c.begin_epoch.ensures.room c.put_sample.ensures.goes.fleet c.put_sample.ensures.goes.len
