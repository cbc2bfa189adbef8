use Rattle.rw_restarts.proofs.BatchLemmas.{batch-samples}
use Rattle.rw_restarts.proofs.workers.a_batch_has_its_samples.Goals as goal

pub returns : goal.returns
returns c = batch-samples
