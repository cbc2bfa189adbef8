use Rattle.rw_restarts.proofs.StoppedLemmas.{abandons-as-sender, stops-as-sender}
use Rattle.rw_restarts.proofs.stopped.a_stopped_shipper_is_such_a_sender.Goals as goal

pub returns-clause-whole : goal.returns-clause-whole
returns-clause-whole g c s r = stops-as-sender g.T.Transport.tells g.T.Transport.seen g.T.Transport.is_for c.a_sender_is_a_run.ensures c.what_is_owed_rises.ensures.longer s r

pub returns-clause-abandoned : goal.returns-clause-abandoned
returns-clause-abandoned g c s r = abandons-as-sender g.T.Transport.tells g.T.Transport.seen g.T.Transport.is_for c.a_sender_is_a_run.ensures c.what_is_owed_rises.ensures.longer s r
