use Rattle.rw_restarts.proofs.NeverRefusedLemmas.{never-refused}
use Rattle.rw_restarts.proofs.RunLemmas.{many-runs}
use Rattle.rw_restarts.proofs.runs.many_runs_fill_one_head.Goals as goal

pub returns-clause-holds : goal.returns-clause-holds
returns-clause-holds c = many-runs

pub returns-clause-refuses_none : goal.returns-clause-refuses_none
returns-clause-refuses_none c = never-refused
