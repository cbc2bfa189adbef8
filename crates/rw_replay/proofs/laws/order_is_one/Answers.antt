use Rattle.rw_replay.proofs.OrderLemmas.{order_one}
use Rattle.rw_replay.proofs.laws.order_is_one.Goals as goal

pub returns : goal.returns
returns c = order_one
