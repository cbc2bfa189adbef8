use Rattle.rw_restarts.proofs.WorkerLemmas.{sends-its-samples, sends-more}
use Rattle.rw_restarts.proofs.workers.a_worker_sends_its_samples.Goals as goal

pub returns-clause-sends : goal.returns-clause-sends
returns-clause-sends c = sends-its-samples

pub returns-clause-more : goal.returns-clause-more
returns-clause-more c = sends-more
