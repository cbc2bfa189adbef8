use Rattle.rw_text.proofs.shared.OneLemmas.{line_one}
use Rattle.rw_text.proofs.laws.line_is_one.Goals as goal

pub returns : goal.returns
returns c = line_one
