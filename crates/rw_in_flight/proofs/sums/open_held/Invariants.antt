use Rattle.std.proofs.Common.{◌≡◌, take}
use Rattle.rw_in_flight.specs.InFlight.{open_held}
use Rattle.rw_in_flight.proofs.sums.open_held.Given as goal

abbrev pub invariant-loop-body : goal.invariant-loop-body
invariant-loop-body l = l.sum ≡ open_held l.first (take l.body-index l.bodies)
