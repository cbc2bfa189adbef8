use Rattle.rw_text.proofs.shared.OneLemmas.{labels_one}
use Rattle.rw_text.proofs.laws.labels_are_one.Goals as goal

pub returns : goal.returns
returns c = labels_one
