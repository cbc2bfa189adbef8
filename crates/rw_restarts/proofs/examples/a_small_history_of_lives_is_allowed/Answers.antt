use Rattle.rw_restarts.proofs.LifeExampleLemmas.{owed-is, lives-are}
use Rattle.rw_restarts.proofs.examples.a_small_history_of_lives_is_allowed.Goals as goal

pub returns-clause-owed : goal.returns-clause-owed
returns-clause-owed c = owed-is

pub returns-clause-history : goal.returns-clause-history
returns-clause-history c = lives-are
