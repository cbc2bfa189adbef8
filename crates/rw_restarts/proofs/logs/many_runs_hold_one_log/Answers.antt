use Rattle.rw_restarts.proofs.LogLemmas.{holds-log, log-refuses-none}
use Rattle.rw_restarts.proofs.logs.many_runs_hold_one_log.Goals as goal

pub returns-clause-holds : goal.returns-clause-holds
returns-clause-holds c = holds-log c.what_is_owed_rises.ensures.rises

pub returns-clause-refuses_none : goal.returns-clause-refuses_none
returns-clause-refuses_none c = log-refuses-none c.what_is_owed_rises.ensures.rises
