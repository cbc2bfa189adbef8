use Rattle.rw_recv_head.proofs.shared.StayingLemmas.{stays_stored}
use Rattle.rw_recv_head.proofs.laws.what_is_stored_stays.Goals as goal

pub returns : goal.returns
returns c = stays_stored
