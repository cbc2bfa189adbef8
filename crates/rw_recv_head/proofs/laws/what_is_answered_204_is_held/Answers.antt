use Rattle.rw_recv_head.proofs.HoldingLemmas.{what_is_answered}
use Rattle.rw_recv_head.proofs.laws.what_is_answered_204_is_held.Goals as goal

pub returns : goal.returns
returns c = what_is_answered
