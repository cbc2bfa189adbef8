use Rattle.rw_kept_log.proofs.shared.TornLogLemmas.{left_between}
use Rattle.rw_kept_log.proofs.laws.a_torn_log_is_a_beginning.Goals as goal

pub returns : goal.returns
returns g c = left_between g.J.Journal.tears
