use Rattle.rw_in_flight.proofs.BodyLemmas.{open_fits}
use Rattle.rw_in_flight.proofs.sums.open_held.Goals as goal

pub overflow_add-sum : goal.overflow_add-sum
overflow_add-sum c = record {
  fits = open_fits c.args.first c.args.bodies.now c.loop-body.body-index c.loop-body.sum (record { number = 0; bytes = 0 }) c.loop-body-test.true c.loop-body.invariant c.requires;
}
