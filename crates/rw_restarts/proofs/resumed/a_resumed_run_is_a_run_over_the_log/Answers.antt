use Rattle.rw_kept_log.specs.Checkpoints.{definitions_of}
use Rattle.rw_restarts.proofs.resumed.a_resumed_run_is_a_run_over_the_log.Goals as goal

pub returns : goal.returns
returns c choice before later more sent over = c.a_run_from_a_checkpoint_is_a_run_over_the_log.ensures choice before (definitions_of before) later more sent over
