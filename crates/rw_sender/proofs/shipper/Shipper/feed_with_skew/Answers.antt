use mir.Val.{SFits, of_z, to_z}
use mir.Syntax.{w64}
use Rattle.std.proofs.Common.{rules, sym, subst}
use Rattle.std.proofs.lemmas.Int.{to_z-of_z}
use Rattle.rw_sender.specs.inner.Shipping.{IsSince}
use Rattle.rw_sender.specs.Placement.{IsShardCount}
use Rattle.rw_sender.proofs.shared.SkewLemmas.{IsPlacedOver, kept_over, len_whole, over_still}
use Rattle.rw_sender.proofs.shared.ShippingLemmas.{number_of}
use Rattle.rw_sender.proofs.shipper.Shipper.feed_with_skew.Goals as goal

pub returns-then-is_err-clause-over : goal.returns-then-is_err-clause-over
returns-then-is_err-clause-over g c = λ none. over_still _ _ _ _ c.args.self.now c.self.view_is

pub invariant_of-self-in-None : goal.invariant_of-self-in-None
invariant_of-self-in-None g c =
    let placed = c.place_over-read.ensures in
    let number = number_of c.self.inside.feeder c.self.inside.fleet c.self.inside.fault c.self.invariant.1 c.in_default.is in
    let fits : SFits w64 c.place_over-read.new.span.earliest = search rules in
    let over : IsPlacedOver c.place_over-read.new.feeder c.place_over-read.new.fleet c.place_over-read.new.cuts (to_z w64 (of_z w64 c.place_over-read.new.span.earliest)) c.in-Ok.damage = record {
      places = placed.places;
      hand = c.in-Ok.ensures.hand;
      number = subst IsShardCount (sym (len_whole _ _ _ _ c.in-Ok.ensures.whole)) number;
      read = c.in-Ok.ensures.ok;
      counted = c.in-Ok.ensures.counted;
      since = subst (λ z. IsSince z c.place_over-read.new.fleet.current) (sym (to_z-of_z w64 c.place_over-read.new.span.earliest fits)) c.in-Ok.ensures.since;
    } in
    kept_over c.place_over-read.new.feeder c.place_over-read.new.fleet c.hand_over.new.self c.self.inside.fault c.place_over-read.new.cuts (to_z w64 (of_z w64 c.place_over-read.new.span.earliest)) c.in-Ok.damage c.place_over-read.new.samples c.hand_over.ensures c.in_default.is over placed.room

pub invariant_of-self-in-Ok : goal.invariant_of-self-in-Ok
invariant_of-self-in-Ok g c =
    let placed = c.place_over-read.ensures in
    let number = number_of c.self.inside.feeder c.self.inside.fleet c.self.inside.fault c.self.invariant.1 c.in_default.is in
    let fits : SFits w64 c.place_over-read.new.span.earliest = search rules in
    let over : IsPlacedOver c.place_over-read.new.feeder c.place_over-read.new.fleet c.place_over-read.new.cuts (to_z w64 (of_z w64 c.place_over-read.new.span.earliest)) c.in-Ok.damage = record {
      places = placed.places;
      hand = c.in-Ok.ensures.hand;
      number = subst IsShardCount (sym (len_whole _ _ _ _ c.in-Ok.ensures.whole)) number;
      read = c.in-Ok.ensures.ok;
      counted = c.in-Ok.ensures.counted;
      since = subst (λ z. IsSince z c.place_over-read.new.fleet.current) (sym (to_z-of_z w64 c.place_over-read.new.span.earliest fits)) c.in-Ok.ensures.since;
    } in
    kept_over c.place_over-read.new.feeder c.place_over-read.new.fleet c.hand_over.new.self c.self.inside.fault c.place_over-read.new.cuts (to_z w64 (of_z w64 c.place_over-read.new.span.earliest)) c.in-Ok.damage c.place_over-read.new.samples c.hand_over.ensures c.in_default.is over placed.room
