use Rattle.rw_kept_head.proofs.KeptLemmas.{crash_leaves}
use Rattle.rw_kept_head.proofs.laws.what_is_left_lies_between.Goals as goal

pub returns : goal.returns
returns g c = crash_leaves c.segments_add_up.ensures g.J.Journal.tears
