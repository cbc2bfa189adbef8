use Rattle.rw_restarts.proofs.TurnLemmas.{sends-in-order}
use Rattle.rw_restarts.proofs.workers.a_worker_sends_in_order.Goals as goal

pub returns : goal.returns
returns c = sends-in-order
