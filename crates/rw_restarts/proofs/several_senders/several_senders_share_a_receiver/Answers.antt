use Rattle.rw_restarts.proofs.SeveralSenderLemmas.{over-one-log, holds-own, apart-own}
use Rattle.rw_restarts.proofs.several_senders.several_senders_share_a_receiver.Goals as goal

pub returns-clause-over : goal.returns-clause-over
returns-clause-over c = over-one-log

pub returns-clause-holds : goal.returns-clause-holds
returns-clause-holds c = holds-own c.many_runs_hold_one_log.ensures.holds

pub returns-clause-apart : goal.returns-clause-apart
returns-clause-apart c = apart-own
