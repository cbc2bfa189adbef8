use Rattle.std.proofs.Common.{length, sym, ap, ◌∙◌, subst}
use Rattle.rw_fleet.specs.Fleets.{Shards}
use Rattle.rw_sender.specs.Shipping.{Shipping, PlacesAll}
use Rattle.rw_sender.proofs.shared.PlacementLemmas.{kept_self}
use Rattle.rw_sender.proofs.shared.ListingLemmas.{room_handed}
use Rattle.rw_sender.proofs.shared.ShippingLemmas.{rest_as, kept_still}
use Rattle.rw_sender.proofs.shipper.Shipper.feed.Goals as goal

pub invariant_of-self-in-Err : goal.invariant_of-self-in-Err
invariant_of-self-in-Err g c = (subst (λ (f : Shards _). PlacesAll c.place_all-read.new.feeder f) (sym c.hand_over.ensures) c.place_all-read.ensures.places, tt, tt, tt, room_handed c.self.inside.fleet c.place_all-read.new.fleet _ c.self.inside.samples c.self.invariant.4 c.hand_over.ensures c.place_all-read.ensures.goes.fleet c.place_all-read.ensures.goes.len, tt)

pub returns-in-Ok-Read-None-clause-rest : goal.returns-in-Ok-Read-None-clause-rest
returns-in-Ok-Read-None-clause-rest g c = rest_as c.args.self.now.fleet _ _ c.hand_over.ensures (c.place_all-read.ensures.goes.fleet ∙ ap (λ (s : Shipping _). record s.fleet { current = c.place_all-read.new.fleet.current }) c.self.view_is)

pub returns-in-Ok-Read-None-clause-len : goal.returns-in-Ok-Read-None-clause-len
returns-in-Ok-Read-None-clause-len g c =
    ap (λ (f : Shards _). length f.current) c.hand_over.ensures ∙ c.place_all-read.ensures.goes.len ∙ ap (λ (s : Shipping _). length s.fleet.current) c.self.view_is

pub returns-in-Ok-Read-Some-clause-rest : goal.returns-in-Ok-Read-Some-clause-rest
returns-in-Ok-Read-Some-clause-rest g c = rest_as c.args.self.now.fleet _ _ c.hand_over.ensures (c.place_all-read.ensures.goes.fleet ∙ ap (λ (s : Shipping _). record s.fleet { current = c.place_all-read.new.fleet.current }) c.self.view_is)

pub returns-in-Ok-Read-Some-clause-len : goal.returns-in-Ok-Read-Some-clause-len
returns-in-Ok-Read-Some-clause-len g c =
    ap (λ (f : Shards _). length f.current) c.hand_over.ensures ∙ c.place_all-read.ensures.goes.len ∙ ap (λ (s : Shipping _). length s.fleet.current) c.self.view_is

pub returns-clause-rest : goal.returns-clause-rest
returns-clause-rest g c = rest_as c.args.self.now.fleet _ _ c.hand_over.ensures (c.place_all-read.ensures.goes.fleet ∙ ap (λ (s : Shipping _). record s.fleet { current = c.place_all-read.new.fleet.current }) c.self.view_is)

pub returns-clause-len : goal.returns-clause-len
returns-clause-len g c =
    ap (λ (f : Shards _). length f.current) c.hand_over.ensures ∙ c.place_all-read.ensures.goes.len ∙ ap (λ (s : Shipping _). length s.fleet.current) c.self.view_is

pub returns-in-Some-clause-kept : goal.returns-in-Some-clause-kept
returns-in-Some-clause-kept g c = kept_self c.args.self.now.fleet.current

pub returns-then-is_err-clause-kept : goal.returns-then-is_err-clause-kept
returns-then-is_err-clause-kept g c = kept_still _ c.args.self.now c.self.view_is
