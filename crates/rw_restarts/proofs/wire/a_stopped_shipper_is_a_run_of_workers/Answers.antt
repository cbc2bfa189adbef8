use Rattle.rw_restarts.proofs.WireLemmas.{stops-as-workers}
use Rattle.rw_restarts.proofs.wire.a_stopped_shipper_is_a_run_of_workers.Goals as goal

pub returns : goal.returns
returns g c s r = stops-as-workers g.T.Transport.tells g.T.Transport.seen g.T.Transport.is_for s r
