use Rattle.rw_kept_log.proofs.shared.CheckpointLemmas.{rest-same}
use Rattle.rw_restarts.proofs.CheckpointLemmas.{whole-parts, owed-end, owed-part}
use Rattle.rw_restarts.proofs.checkpoints.a_checkpoint_keeps_the_series.Goals as goal

pub returns-clause-rest : goal.returns-clause-rest
returns-clause-rest c = rest-same

pub returns-clause-whole : goal.returns-clause-whole
returns-clause-whole c = whole-parts

pub returns-clause-owed : goal.returns-clause-owed
returns-clause-owed c = owed-end

pub returns-clause-part : goal.returns-clause-part
returns-clause-part c = owed-part
