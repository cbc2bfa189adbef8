use Rattle.rw_simulation.proofs.shared.ReceivedRuns.{receives-abandoned, receives-in-order}
use Rattle.rw_simulation.proofs.laws.one_receiver_holds_the_samples.Goals as goal

pub returns-clause-orderly : goal.returns-clause-orderly
returns-clause-orderly c g s r = receives-in-order _ _ _ s r

pub returns-clause-abandoned : goal.returns-clause-abandoned
returns-clause-abandoned c g s r = receives-abandoned _ _ _ s r
