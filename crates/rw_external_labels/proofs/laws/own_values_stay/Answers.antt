use Rattle.rw_external_labels.proofs.LabelLemmas.{value_at-with_labels}
use Rattle.rw_external_labels.proofs.laws.own_values_stay.Goals as goal

pub returns : goal.returns
returns c = value_at-with_labels
