use Rattle.std.proofs.Common.{◌∙◌, List, sym, ap}
use Rattle.rw_machine.specs.Steps.{run}
use Rattle.rw_machine.specs.declared.event.Event.{Event}
use Rattle.rw_world.proofs.ShutdownLemmas.{settled_none, settled_more}
use Rattle.rw_world.proofs.engine.Engine.settle.Goals as goal

pub rounds-init : goal.rounds-init
rounds-init c = settled_none c.args.self.now c.shut.new.self c.shut.ensures

pub rounds-preserved : goal.rounds-preserved
rounds-preserved c =
    let m = c.rounds.self in
    settled_more c.args.self.now m c.play.new.self c.rounds.invariant (sym c.is_over.ensures ∙ c.if-is_over.false)
    (c.in_ok-play.ensures.ok ∙ ap (λ (es : List Event). record m { world = run m.setup es m.world }) c.next-next.ensures)
