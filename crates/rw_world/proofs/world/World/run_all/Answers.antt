use Rattle.std.proofs.Common.{◌∙◌, ◌<◌, take, length, sym, ap, arith}
use Rattle.rw_machine.specs.Steps.{happens, run}
use Rattle.rw_world.specs.Machine.{Machine}
use Rattle.rw_world.proofs.StepLemmas.{run_more}
use Rattle.rw_world.proofs.world.World.run_all.Goals as goal

pub loop-at-preserved : goal.loop-at-preserved
loop-at-preserved c =
    let m = c.args.self.now in
    let es = c.args.events.now in
    let i = c.loop-at.at in
    let x = c.index-events-at.result in
    let lt : i < length es = omega arith in
    c.in-Ok.ensures.ok
    ∙ ap (λ (k : Machine). record k { world = happens k.setup k.world x }) c.loop-at.invariant
    ∙ ap (λ e. record m { world = happens m.setup (run m.setup (take i es) m.world) e }) c.index-events-at.is
    ∙ ap (λ w. record m { world = w }) (sym (run_more m.setup es m.world i x lt))
