use Rattle.rw_restarts.proofs.ServedLemmas.{serves-in-order}
use Rattle.rw_restarts.proofs.wire.a_served_receiver_is_asked_in_order.Goals as goal

pub returns : goal.returns
returns g c setup runs requests first last acknowledged = serves-in-order g.J.Journal.seen g.J.Journal.may_leave g.J.Journal.moment g.J.Journal.left_since g.J.Journal.tears setup runs requests first last acknowledged
