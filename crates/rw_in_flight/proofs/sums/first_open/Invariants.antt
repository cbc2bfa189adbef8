use Rattle.std.proofs.Common.{◌≡◌, drop}
use Rattle.rw_in_flight.specs.InFlight.{first_open}
use Rattle.rw_in_flight.proofs.sums.first_open.Given as goal

abbrev pub invariant-loop-body : goal.invariant-loop-body
invariant-loop-body l = first_open l.fn.need l.fn.first l.bodies ≡ first_open l.need l.first (drop l.body-index l.bodies)
