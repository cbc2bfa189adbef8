use Rattle.std.proofs.Common.{inl, inr, refl, sym, ◌∙◌}
use Rattle.rw_sender.proofs.shared.ListingLemmas.{room_closed}
use Rattle.rw_sender.proofs.shared.ShippingLemmas.{compared_open, compared_shut, places_shut, places_opened, on_ok}
use Rattle.rw_sender.proofs.unresolved.begin_epoch.Goals as goal

pub returns-in_default-clause-room : goal.returns-in_default-clause-room
returns-in_default-clause-room g c =
    let e = c.close.ensures in
    room_closed g.C.T.Transport.tells g.C.T.Transport.seen g.C.T.Transport.is_for c.args.fleet.now c.close.new.self c.args.samples.now c.requires.room e.closed e.worked e.setup

pub open_listed-requires-clause-room : goal.open_listed-requires-clause-room
open_listed-requires-clause-room g c κs within =
    let e = c.close.ensures in
    room_closed g.C.T.Transport.tells g.C.T.Transport.seen g.C.T.Transport.is_for c.args.fleet.now c.close.new.self c.args.samples.now c.requires.room e.closed e.worked e.setup

pub returns-then-epoch-eq18446744073709551615-clause-places : goal.returns-then-epoch-eq18446744073709551615-clause-places
returns-then-epoch-eq18446744073709551615-clause-places g c = λ log number h. h

pub returns-in_default-clause-places : goal.returns-in_default-clause-places
returns-in_default-clause-places g c = λ log number h. places_shut log c.args.fleet.now c.close.new.self h number c.close.ensures.closed

pub returns-then-is_err-clause-places : goal.returns-then-is_err-clause-places
returns-then-is_err-clause-places g c = λ log number h.
    let shut = c.close.ensures.closed in
    places_opened log c.close.new.self c.open_listed.new.fleet (places_shut log c.args.fleet.now c.close.new.self h number shut) shut.2 c.open_listed.ensures.rest c.open_listed.ensures.fresh

pub returns-clause-places : goal.returns-clause-places
returns-clause-places g c = λ log number h.
    let shut = c.close.ensures.closed in
    places_opened log c.close.new.self c.open_listed.new.fleet (places_shut log c.args.fleet.now c.close.new.self h number shut) shut.2 c.open_listed.ensures.rest c.open_listed.ensures.fresh
