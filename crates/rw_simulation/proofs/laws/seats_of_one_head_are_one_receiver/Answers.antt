use Rattle.rw_simulation.proofs.shared.Seatings.{seats-as-one}
use Rattle.rw_simulation.proofs.laws.seats_of_one_head_are_one_receiver.Goals as goal

pub returns : goal.returns
returns c = seats-as-one
