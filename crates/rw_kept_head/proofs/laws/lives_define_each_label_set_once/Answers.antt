use Rattle.rw_kept_head.proofs.KeptLemmas.{lives_once}
use Rattle.rw_kept_head.proofs.laws.lives_define_each_label_set_once.Goals as goal

pub returns : goal.returns
returns g c = lives_once c.segments_add_up.ensures c.a_beginning_is_defined_once.ensures g.J.Journal.tears
