use Rattle.std.proofs.Common.{◌≡◌, []}
use Rattle.rw_sender.specs.inner.Cutting.{GoesCut}
use Rattle.rw_sender.specs.Shipping.{PlacesAll}
use Rattle.rw_sender.specs.inner.Shipping.{GoesOn, IsSpanned}
use Rattle.rw_sender.proofs.place.place_all.Given as goal

abbrev pub invariant-loop : goal.invariant-loop
invariant-loop g l =
    (l.feeder.hand ≡ []) × GoesOn l.initial.cuts.limit l.initial.feeder l.feeder l.initial.fleet l.fleet × PlacesAll l.feeder l.fleet
    × (l.cuts.limit ≡ l.initial.cuts.limit) × GoesCut l.initial.cuts l.cuts l.initial.fleet.current l.fleet.current
    × IsSpanned l.initial.span l.span l.initial.fleet.current l.fleet.current
