use Rattle.rw_kept_head.proofs.AdmittedLemmas.{answer_held}
use Rattle.rw_kept_head.proofs.laws.a_head_stays_within_its_limits.Goals as goal

pub returns : goal.returns
returns c = answer_held
