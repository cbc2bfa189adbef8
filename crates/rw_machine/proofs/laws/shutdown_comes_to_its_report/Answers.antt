use Rattle.rw_machine.proofs.shared.Settles.{settle_runs, settle_ends}
use Rattle.rw_machine.proofs.laws.shutdown_comes_to_its_report.Goals as goal

pub returns-clause-runs : goal.returns-clause-runs
returns-clause-runs c = settle_runs

pub returns-clause-ends : goal.returns-clause-ends
returns-clause-ends c = settle_ends
