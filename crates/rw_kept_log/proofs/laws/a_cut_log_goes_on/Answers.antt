use Rattle.rw_kept_log.proofs.LogLemmas.{goes_on}
use Rattle.rw_kept_log.proofs.laws.a_cut_log_goes_on.Goals as goal

pub returns : goal.returns
returns c = goes_on
