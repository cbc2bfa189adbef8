use Rattle.rw_kept_log.proofs.TornLemmas.{synced_stays, torn_begins}
use Rattle.rw_kept_log.proofs.laws.a_torn_end_is_a_beginning.Goals as goal

pub returns : goal.returns
returns c = λ page synced written left p torn chance. (synced_stays page synced written left p torn, torn_begins page synced written left p torn chance)
