use Rattle.rw_restarts.proofs.ShardLemmas.{sender-is-run}
use Rattle.rw_restarts.proofs.senders.a_sender_is_a_run.Goals as goal

pub returns : goal.returns
returns c = sender-is-run c.what_is_put_is_what_is_owed.ensures c.a_worker_sends_its_samples.ensures.sends c.a_worker_sends_its_samples.ensures.more
