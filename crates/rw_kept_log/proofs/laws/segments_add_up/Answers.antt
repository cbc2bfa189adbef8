use Rattle.rw_kept_log.proofs.LogLemmas.{next_adds}
use Rattle.rw_kept_log.proofs.laws.segments_add_up.Goals as goal

pub returns : goal.returns
returns c = next_adds
