use Rattle.rw_kept_log.proofs.shared.CheckpointLemmas.{says_same}
use Rattle.rw_restarts.proofs.ResumedLemmas.{is_checkpoint}
use Rattle.rw_restarts.proofs.resumed.definitions_are_a_checkpoint.Goals as goal

pub returns-clause-labels : goal.returns-clause-labels
returns-clause-labels c = says_same

pub returns-clause-checkpoint : goal.returns-clause-checkpoint
returns-clause-checkpoint c = is_checkpoint
