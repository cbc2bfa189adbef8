use Rattle.rw_restarts.proofs.LogLemmas.{run-from-checkpoint}
use Rattle.rw_restarts.proofs.logs.a_run_from_a_checkpoint_is_a_run_over_the_log.Goals as goal

pub returns : goal.returns
returns c = run-from-checkpoint c.a_checkpoint_keeps_the_series.ensures.owed c.what_is_owed_rises.ensures.longer
