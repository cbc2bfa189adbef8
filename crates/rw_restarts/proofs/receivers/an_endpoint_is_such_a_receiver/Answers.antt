use Rattle.rw_restarts.proofs.ReceivedLemmas.{received-answers}
use Rattle.rw_restarts.proofs.receivers.an_endpoint_is_such_a_receiver.Goals as goal

pub returns : goal.returns
returns g c how e x old status new acknowledged is received other = received-answers c e x old status new acknowledged is how received other
