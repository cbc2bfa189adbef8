use Rattle.rw_restarts.proofs.LogLemmas.{part-is-run}
use Rattle.rw_restarts.proofs.logs.a_run_over_a_part_is_a_run_over_the_log.Goals as goal

pub returns : goal.returns
returns c = part-is-run
