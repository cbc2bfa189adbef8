use Rattle.rw_restarts.proofs.RunLifeLemmas.{killed, from-checkpoint}
use Rattle.rw_restarts.proofs.lives.a_killed_sender_has_such_a_life.Goals as goal

pub returns-clause-killed : goal.returns-clause-killed
returns-clause-killed c = killed c.what_is_owed_rises.ensures.longer

pub returns-clause-checkpoint : goal.returns-clause-checkpoint
returns-clause-checkpoint c = from-checkpoint
