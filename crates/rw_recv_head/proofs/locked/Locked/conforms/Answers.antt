use Rattle.std.proofs.Common.{subst}
use Rattle.rw_recv_head.specs.Seats.{HasAdmitted}
use Rattle.rw_recv_head.specs.inner.Seats.{Held}
use Rattle.rw_recv_head.proofs.locked.Locked.conforms.Goals as goal

pub returns : goal.returns
returns g c = (c.self.inside.holder, subst (λ (h : Held). HasAdmitted g.H.Admit.admits g.L.Holding.first h.questions.asked c.self.inside.holder) c.self.view_is c.self.invariant.3)
