use mir.Val.{SFits}
use mir.Syntax.{w64}
use Rattle.std.proofs.Common.{rules, refl, sym, ◌∙◌, subst}
use Rattle.std.proofs.lemmas.Int.{to_z-of_z}
use Rattle.std.specs.Prelude.{◌≤ℤ◌}
use Rattle.rw_fleet.specs.Fleets.{Shards}
use Rattle.rw_fleet.proofs.shared.LaneLemmas.{same_self}
use Rattle.rw_sender.specs.Shipping.{PlacesAll}
use Rattle.rw_sender.specs.inner.Shipping.{GoesOn, IsSpanned}
use Rattle.rw_sender.proofs.CutLemmas.{goes_cut_put}
use Rattle.rw_sender.proofs.TimeLemmas.{spanned_put, spanned_same}
use Rattle.rw_sender.proofs.shared.ShippingLemmas.{goes_marked, goes_cut, places_same, places_sent, stands_behind}
use Rattle.rw_sender.proofs.place.put_sample.Goals as goal

pub returns-in_err-make_room-clause-goes : goal.returns-in_err-make_room-clause-goes
returns-in_err-make_room-clause-goes g c =
    let made = c.make_room.ensures in
    goes_marked _ c.args.feeder.now c.args.feeder.now c.args.fleet.now c.make_room.new.fleet refl made.rest made.same made.none

pub returns-in_err-make_room-clause-places : goal.returns-in_err-make_room-clause-places
returns-in_err-make_room-clause-places g c =
    let made = c.make_room.ensures in
    places_same c.args.feeder.now c.args.fleet.now c.make_room.new.fleet c.requires.places made.rest made.same

pub returns-in_err-make_room-clause-spanned : goal.returns-in_err-make_room-clause-spanned
returns-in_err-make_room-clause-spanned g c = spanned_same c.args.span.now _ _ c.make_room.ensures.same c.requires.since

pub put-requires-clause-later : goal.put-requires-clause-later
put-requires-clause-later g c κs within =
    let made = c.make_room.ensures in
    let waiting = c.requires.waiting in
    stands_behind c.args.feeder.now c.make_room.new.fleet waiting.entry c.args.sample _ (places_same c.args.feeder.now c.args.fleet.now c.make_room.new.fleet c.requires.places made.rest made.same) waiting.sent

pub returns-in-Err-clause-goes : goal.returns-in-Err-clause-goes
returns-in-Err-clause-goes g c =
    let made = c.make_room.ensures in
    subst (λ (f : Shards _). GoesOn c.args.cuts.now.limit c.args.feeder.now c.args.feeder.now c.args.fleet.now f) (sym c.in-Err.ensures.err)
    (goes_marked c.args.cuts.now.limit c.args.feeder.now c.args.feeder.now c.args.fleet.now c.make_room.new.fleet refl made.rest made.same made.none)

pub returns-in-Err-clause-places : goal.returns-in-Err-clause-places
returns-in-Err-clause-places g c =
    let made = c.make_room.ensures in
    subst (λ (f : Shards _). PlacesAll c.args.feeder.now f) (sym c.in-Err.ensures.err)
    (places_same c.args.feeder.now c.args.fleet.now c.make_room.new.fleet c.requires.places made.rest made.same)

pub returns-in-Err-clause-spanned : goal.returns-in-Err-clause-spanned
returns-in-Err-clause-spanned g c =
    subst (λ (f : Shards _). IsSpanned c.args.span.now c.args.span.now c.args.fleet.now.current f.current) (sym c.in-Err.ensures.err)
    (spanned_same c.args.span.now _ _ c.make_room.ensures.same c.requires.since)

pub returns-clause-goes : goal.returns-clause-goes
returns-clause-goes g c =
    let made = c.make_room.ensures in
    goes_cut _ _ c.args.sample c.args.feeder.now c.args.feeder.now c.sent.new.self c.args.fleet.now c.make_room.new.fleet c.put.new.self refl c.sent.ensures made.rest c.put.ensures.rest made.same made.none c.in_default.ensures.ok

pub returns-clause-cut : goal.returns-clause-cut
returns-clause-cut g c =
    goes_cut_put c.args.cuts.now c.make_room.new.cuts _ c.args.sample c.args.fleet.now.current c.make_room.new.fleet.current c.put.new.self.current c.make_room.ensures.limit c.requires.counted c.in_ok-make_room.ensures.ok c.in_default.ensures.ok

pub returns-clause-places : goal.returns-clause-places
returns-clause-places g c =
    let made = c.make_room.ensures in
    let waiting = c.requires.waiting in
    places_sent c.args.feeder.now c.args.feeder.now c.sent.new.self c.make_room.new.fleet c.put.new.self waiting.entry c.args.sample _ _ refl c.sent.ensures waiting.hand waiting.sent c.put.ensures.rest c.in_default.ensures.ok refl (c.len.ensures.len ∙ sym made.len)
    (places_same c.args.feeder.now c.args.fleet.now c.make_room.new.fleet c.requires.places made.rest made.same)

pub returns-clause-spanned : goal.returns-clause-spanned
returns-clause-spanned g c =
    let made = c.make_room.ensures in
    let waiting = c.requires.waiting in
    let fits : SFits w64 c.args.sample.t = search rules in
    let own = subst (λ z. c.with.result.earliest ≤ℤ z) (to_z-of_z w64 c.args.sample.t fits) c.with.ensures.own in
    spanned_put c.args.span.now c.with.result _ c.args.sample c.args.fleet.now.current c.make_room.new.fleet.current c.put.new.self.current made.same c.in_default.ensures.ok c.with.ensures.most c.with.ensures.before own c.requires.takes c.requires.since
    (λ j. stands_behind c.args.feeder.now c.make_room.new.fleet waiting.entry c.args.sample j (places_same c.args.feeder.now c.args.fleet.now c.make_room.new.fleet c.requires.places made.rest made.same) waiting.sent)
