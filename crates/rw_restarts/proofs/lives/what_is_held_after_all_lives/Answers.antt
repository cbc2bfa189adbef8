use Rattle.rw_restarts.proofs.LifeLemmas.{in-order, all-of-complete}
use Rattle.rw_restarts.proofs.lives.what_is_held_after_all_lives.Goals as goal

pub returns-clause-in_order : goal.returns-clause-in_order
returns-clause-in_order c choice log l lives events states h =
    in-order choice log l lives events states (c.what_is_owed_rises.ensures.rises choice log l) h

pub returns-clause-rises : goal.returns-clause-rises
returns-clause-rises c = c.what_is_owed_rises.ensures.rises

pub returns-clause-complete : goal.returns-clause-complete
returns-clause-complete c choice log l lives events states i end life h lived is some =
    all-of-complete choice log l lives events states (c.what_is_owed_rises.ensures.rises choice log l) h i life lived end is some
