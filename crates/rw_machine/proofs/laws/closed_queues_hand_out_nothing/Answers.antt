use Rattle.rw_machine.proofs.Closed.{closed}
use Rattle.rw_machine.proofs.laws.closed_queues_hand_out_nothing.Goals as goal

pub returns : goal.returns
returns c = closed
