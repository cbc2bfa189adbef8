use Rattle.rw_kept_head.proofs.PastLemmas.{answered_alike}
use Rattle.rw_kept_head.proofs.laws.what_is_gone_changes_no_answer.Goals as goal

pub returns : goal.returns
returns c = answered_alike c.what_can_be_judged.ensures
