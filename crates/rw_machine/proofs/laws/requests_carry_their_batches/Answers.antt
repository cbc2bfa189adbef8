use Rattle.rw_machine.proofs.shared.Requests.{carries_each, sends_same}
use Rattle.rw_machine.proofs.laws.requests_carry_their_batches.Goals as goal

pub returns-clause-bytes : goal.returns-clause-bytes
returns-clause-bytes c = carries_each

pub returns-clause-again : goal.returns-clause-again
returns-clause-again c = sends_same
