use Rattle.rw_text.proofs.shared.OneLemmas.{value_printed}
use Rattle.rw_text.proofs.laws.value_is_read.Goals as goal

pub returns : goal.returns
returns c = value_printed
