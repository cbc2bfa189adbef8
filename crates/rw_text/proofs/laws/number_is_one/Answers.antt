use Rattle.rw_text.proofs.shared.OneLemmas.{number_one, integer_one}
use Rattle.rw_text.proofs.laws.number_is_one.Goals as goal

pub returns-clause-number : goal.returns-clause-number
returns-clause-number c = number_one

pub returns-clause-integer : goal.returns-clause-integer
returns-clause-integer c = integer_one
