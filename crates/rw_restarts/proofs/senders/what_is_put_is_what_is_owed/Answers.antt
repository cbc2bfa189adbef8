use Rattle.rw_restarts.proofs.SenderLemmas.{sent-is-owed}
use Rattle.rw_restarts.proofs.senders.what_is_put_is_what_is_owed.Goals as goal

pub returns : goal.returns
returns c = sent-is-owed c.what_is_owed_rises.ensures.next
