use Rattle.rw_sorted_labels.proofs.OrderLemmas.{found}
use Rattle.rw_sorted_labels.proofs.laws.label_set_is_found.Goals as goal

pub returns : goal.returns
returns c = found
