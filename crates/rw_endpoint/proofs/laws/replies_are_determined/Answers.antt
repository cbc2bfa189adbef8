use Rattle.rw_endpoint.proofs.DeterminedLemmas.{determined}
use Rattle.rw_endpoint.proofs.laws.replies_are_determined.Goals as goal

pub returns : goal.returns
returns g c = determined g.A.Answer.answers
