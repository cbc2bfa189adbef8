use Rattle.rw_simulation.proofs.AbandonedRuns.{stops-abandoned}
use Rattle.rw_simulation.proofs.Accounts.{run-accounts}
use Rattle.rw_simulation.proofs.StoppedRuns.{stops-as-run, stops-in-order}
use Rattle.rw_simulation.proofs.laws.a_stopped_shipper_is_a_run.Goals as goal

pub returns-clause-epochs : goal.returns-clause-epochs
returns-clause-epochs c g s r = stops-as-run _ _ _ s r

pub returns-clause-orderly : goal.returns-clause-orderly
returns-clause-orderly c g s r = stops-in-order _ _ _ s r

pub returns-clause-abandoned : goal.returns-clause-abandoned
returns-clause-abandoned c g s r = stops-abandoned _ _ _ s r

pub returns-clause-accounts : goal.returns-clause-accounts
returns-clause-accounts c g s r = run-accounts _ _ _ s r
