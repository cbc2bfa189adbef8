use Rattle.rw_machine.proofs.Stays.{replies_stay, requests_stay}
use Rattle.rw_machine.proofs.laws.requests_and_replies_stay.Goals as goal

pub returns-clause-requests : goal.returns-clause-requests
returns-clause-requests c = requests_stay

pub returns-clause-replies : goal.returns-clause-replies
returns-clause-replies c = replies_stay
