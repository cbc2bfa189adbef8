use Rattle.rw_restarts.proofs.CheckpointLemmas.{owed-rises, owed-longer}
use Rattle.rw_restarts.proofs.OwedLemmas.{rising-itself, rising-next}
use Rattle.rw_restarts.proofs.checkpoints.what_is_owed_rises.Goals as goal

pub returns-clause-rises : goal.returns-clause-rises
returns-clause-rises c = owed-rises

pub returns-clause-longer : goal.returns-clause-longer
returns-clause-longer c = owed-longer

pub returns-clause-same : goal.returns-clause-same
returns-clause-same c = rising-itself

pub returns-clause-next : goal.returns-clause-next
returns-clause-next c = rising-next
