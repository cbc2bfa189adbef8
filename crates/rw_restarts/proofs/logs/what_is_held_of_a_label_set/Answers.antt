use Rattle.rw_restarts.proofs.LogLemmas.{held-in-order, held-when-complete}
use Rattle.rw_restarts.proofs.logs.what_is_held_of_a_label_set.Goals as goal

pub returns-clause-in_order : goal.returns-clause-in_order
returns-clause-in_order c = held-in-order c.many_runs_hold_one_log.ensures.holds

pub returns-clause-rises : goal.returns-clause-rises
returns-clause-rises c = c.what_is_owed_rises.ensures.rises

pub returns-clause-complete : goal.returns-clause-complete
returns-clause-complete c = held-when-complete c.many_runs_hold_one_log.ensures.holds
