use Rattle.rw_simulation.proofs.SharedReceivers.{shares-as-one}
use Rattle.rw_simulation.proofs.laws.a_shared_head_is_one_receiver.Goals as goal

pub returns : goal.returns
returns c = shares-as-one
