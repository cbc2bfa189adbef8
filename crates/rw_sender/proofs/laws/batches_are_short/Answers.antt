use Rattle.rw_sender.proofs.WithinLemmas.{cut_short}
use Rattle.rw_sender.proofs.laws.batches_are_short.Goals as goal

pub returns : goal.returns
returns c = cut_short c.body_within_its_count.ensures
