use Rattle.std.proofs.Common.{◌≡◌, take}
use Rattle.rw_in_flight.specs.InFlight.{held}
use Rattle.rw_in_flight.proofs.sums.held.Given as goal

abbrev pub invariant-loop-body : goal.invariant-loop-body
invariant-loop-body l = l.sum ≡ held (take l.body-index l.bodies)
