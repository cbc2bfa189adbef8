use Rattle.rw_text.proofs.shared.OneLemmas.{value_one}
use Rattle.rw_text.proofs.laws.value_is_one.Goals as goal

pub returns : goal.returns
returns c = value_one
