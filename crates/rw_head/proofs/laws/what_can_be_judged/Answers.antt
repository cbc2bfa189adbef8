use Rattle.rw_head.proofs.ForgettingLemmas.{accept_one-with_gone}
use Rattle.rw_head.proofs.laws.what_can_be_judged.Goals as goal

pub returns : goal.returns
returns c = λ gone held s h later. accept_one-with_gone gone held s h later
