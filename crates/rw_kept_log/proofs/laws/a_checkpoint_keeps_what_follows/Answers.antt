use Rattle.rw_kept_log.proofs.shared.CheckpointLemmas.{follows_alike, none_of_them, says_same}
use Rattle.rw_kept_log.proofs.laws.a_checkpoint_keeps_what_follows.Goals as goal

pub returns-clause-follows : goal.returns-clause-follows
returns-clause-follows c = follows_alike

pub returns-clause-labels : goal.returns-clause-labels
returns-clause-labels c = says_same

pub returns-clause-none : goal.returns-clause-none
returns-clause-none c = none_of_them
