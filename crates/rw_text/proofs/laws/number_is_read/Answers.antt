use Rattle.rw_text.proofs.shared.OneLemmas.{number_printed}
use Rattle.rw_text.proofs.laws.number_is_read.Goals as goal

pub returns : goal.returns
returns c = number_printed
