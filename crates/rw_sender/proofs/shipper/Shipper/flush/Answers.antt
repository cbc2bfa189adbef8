use Rattle.rw_fleet.proofs.shared.LaneLemmas.{same_self}
use Rattle.rw_sender.proofs.shared.ListingLemmas.{room_same}
use Rattle.rw_sender.proofs.shared.ShippingLemmas.{places_same, ready_same, reckoned_marked, timed_same}
use Rattle.rw_sender.proofs.shipper.Shipper.flush.Goals as goal

pub invariant_of-self : goal.invariant_of-self
invariant_of-self g c = (places_same c.self.inside.feeder c.self.inside.fleet c.mark.new.self c.self.invariant.0 c.mark.ensures.rest c.mark.ensures.same, tt, tt, tt, room_same c.self.inside.fleet c.mark.new.self c.self.inside.samples c.self.invariant.4 c.mark.ensures.rest c.mark.ensures.same, tt)

pub invariant_of-self-2 : goal.invariant_of-self-2
invariant_of-self-2 g c = (
  places_same c.self.inside.feeder c.self.inside.fleet c.mark.new.self c.self.invariant.0 c.mark.ensures.rest c.mark.ensures.same,
  ready_same c.self.inside.feeder c.self.inside.fleet c.mark.new.self c.self.inside.fault c.self.invariant.1 c.mark.ensures.same,
  c.self.invariant.2,
  reckoned_marked c.self.inside.cuts c.reset.new.self c.self.inside.fleet c.mark.new.self c.self.inside.fault c.self.invariant.3 c.reset.ensures.limit c.reset.ensures.full c.in_default-mark.ensures.marked,
  room_same c.self.inside.fleet c.mark.new.self c.self.inside.samples c.self.invariant.4 c.mark.ensures.rest c.mark.ensures.same,
  timed_same _ c.self.inside.fleet c.mark.new.self c.self.inside.fault c.self.invariant.5 c.mark.ensures.same,
)

pub returns-in-Some-clause-same : goal.returns-in-Some-clause-same
returns-in-Some-clause-same g c = same_self c.args.self.now.fleet.current

pub returns-in-Err-clause-placed : goal.returns-in-Err-clause-placed
returns-in-Err-clause-placed g c = places_same c.self.inside.feeder c.self.inside.fleet c.mark.new.self c.self.invariant.0 c.mark.ensures.rest c.mark.ensures.same

pub returns-clause-placed : goal.returns-clause-placed
returns-clause-placed g c = places_same c.self.inside.feeder c.self.inside.fleet c.mark.new.self c.self.invariant.0 c.mark.ensures.rest c.mark.ensures.same
