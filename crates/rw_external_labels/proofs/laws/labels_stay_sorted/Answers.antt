use Rattle.rw_external_labels.proofs.LabelLemmas.{are_sorted-with_labels}
use Rattle.rw_external_labels.proofs.laws.labels_stay_sorted.Goals as goal

pub returns : goal.returns
returns c = are_sorted-with_labels
