use Rattle.rw_restarts.proofs.RefusalLemmas.{acknowledged-stays}
use Rattle.rw_restarts.proofs.runs.acknowledged_samples_stay.Goals as goal

pub returns : goal.returns
returns c = acknowledged-stays
