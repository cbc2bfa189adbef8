use Rattle.rw_restarts.proofs.KeptReceiverLemmas.{admission-answers, opened-again}
use Rattle.rw_restarts.proofs.receivers.a_kept_head_is_such_a_receiver.Goals as goal

pub returns-clause-answers : goal.returns-clause-answers
returns-clause-answers c old m status new acknowledged a = admission-answers old m status new a acknowledged

pub returns-clause-opened : goal.returns-clause-opened
returns-clause-opened c = opened-again
