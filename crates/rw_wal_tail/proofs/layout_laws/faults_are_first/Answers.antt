use Rattle.rw_wal_tail.proofs.LayoutLogs.{first_fault}
use Rattle.rw_wal_tail.proofs.layout_laws.faults_are_first.Goals as goal

pub returns : goal.returns
returns c = first_fault
