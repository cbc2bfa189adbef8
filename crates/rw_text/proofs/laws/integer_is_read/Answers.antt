use Rattle.rw_text.proofs.shared.OneLemmas.{integer_printed}
use Rattle.rw_text.proofs.laws.integer_is_read.Goals as goal

pub returns : goal.returns
returns c = integer_printed
