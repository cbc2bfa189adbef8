use Rattle.rw_sender.proofs.shared.ShippingLemmas.{number_of, ready_next, reckoned_fresh, timed_fresh}
use Rattle.rw_sender.proofs.shipper.Shipper.reshard.Goals as goal

pub invariant_of-self : goal.invariant_of-self
invariant_of-self g c =
    (c.begin_epoch.ensures.places c.self.inside.feeder (number_of c.self.inside.feeder c.self.inside.fleet c.self.inside.fault c.self.invariant.1 c.in_default.is) c.self.invariant.0, tt, tt, tt, c.begin_epoch.ensures.room, tt)

pub invariant_of-self-2 : goal.invariant_of-self-2
invariant_of-self-2 g c =
    let opened = c.in_default-begin_epoch.ensures.opened in (
      c.begin_epoch.ensures.places c.self.inside.feeder (number_of c.self.inside.feeder c.self.inside.fleet c.self.inside.fault c.self.invariant.1 c.in_default.is) c.self.invariant.0,
      ready_next c.self.inside.feeder c.self.inside.fleet c.begin_epoch.new.fleet c.self.inside.fault c.args.shards c.self.invariant.1 opened.1 (c.requires.some, c.requires.most),
      c.self.invariant.2,
      reckoned_fresh c.reset.new.self c.begin_epoch.new.fleet c.self.inside.fault c.args.shards c.reset.ensures.full opened.1 c.requires.most opened.2,
      c.begin_epoch.ensures.room,
      timed_fresh _ c.begin_epoch.new.fleet c.self.inside.fault opened.2,
    )
