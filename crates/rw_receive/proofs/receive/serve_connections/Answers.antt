use Rattle.std.proofs.Common.{IfOk, Some, subst}
use Rattle.rw_receive.specs.Receiving.{HasServed}
use Rattle.rw_receive.proofs.receive.serve_connections.Goals as goal

pub returns-clause-received : goal.returns-clause-received
returns-clause-received g c =
    subst (λ count. IfOk c.serve_head.result (HasServed g.H.Admit.state g.H.Admit.admits (g.H.Admit.state c.args.holder) (Some c.args.holder) count)) c.get-most.ensures.number c.serve_head.ensures.received
