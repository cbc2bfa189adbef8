use Rattle.std.proofs.Common.{sym, subst}
use Rattle.rw_simulation.specs.Seatings.{IsSeatOf}
use Rattle.rw_in_memory.specs.Lines.{AreMade}
use Rattle.rw_in_memory.proofs.LineLemmas.{line-next}
use Rattle.rw_in_memory.proofs.line.LineTransport.exchange.Goals as goal

pub invariant_of-self : goal.invariant_of-self
invariant_of-self g c = λ made.
    let path = g.L.Endpoint.path in
    let seen = c.self.inside.seen in
    let grown = c.note.ensures in
    subst (λ xs. IsSeatOf path g.L.Endpoint.limit g.L.HeadNaming.opening xs c.ask-status.new.asker.seat) (sym grown)
    (line-next g.L.HeadNaming.opening path g.L.Endpoint.limit seen c.self.inside.asker.seat c.ask-status.new.asker.seat c.args.request.now c.answer_of-answer.result c.ask-status.result c.self.invariant c.ask-status.ensures c.answer_of-answer.ensures (subst (AreMade path) grown made))
