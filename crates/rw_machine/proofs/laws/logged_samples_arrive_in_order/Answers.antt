use Rattle.rw_machine.proofs.shared.Runs.{in_order, of_placed, owed_rises, held_rises, all_when_complete, all_when_damaged}
use Rattle.rw_machine.proofs.shared.Others.{others}
use Rattle.rw_machine.proofs.laws.logged_samples_arrive_in_order.Goals as goal

pub returns-clause-in_order : goal.returns-clause-in_order
returns-clause-in_order c = in_order

pub returns-clause-of_placed : goal.returns-clause-of_placed
returns-clause-of_placed c = of_placed

pub returns-clause-owed_rises : goal.returns-clause-owed_rises
returns-clause-owed_rises c = owed_rises

pub returns-clause-rises : goal.returns-clause-rises
returns-clause-rises c = held_rises

pub returns-clause-whole : goal.returns-clause-whole
returns-clause-whole c = all_when_complete

pub returns-clause-damaged : goal.returns-clause-damaged
returns-clause-damaged c = all_when_damaged

pub returns-clause-nothing_else : goal.returns-clause-nothing_else
returns-clause-nothing_else c = others
