use Rattle.rw_restarts.proofs.AdditionLemmas.{adds-over-wire, adds-to-receiver}
use Rattle.rw_restarts.proofs.stopped.a_stopped_shipper_adds_its_samples.Goals as goal

pub returns-clause-events : goal.returns-clause-events
returns-clause-events g c s r = adds-to-receiver g.T.Transport.tells g.T.Transport.seen g.T.Transport.is_for c.acknowledged_samples_stay.ensures s r

pub returns-clause-received : goal.returns-clause-received
returns-clause-received g c s r = adds-over-wire g.T.Transport.tells g.T.Transport.seen g.T.Transport.is_for c.a_worker_sends_its_samples.ensures.sends c.an_endpoint_is_such_a_receiver.ensures s r
