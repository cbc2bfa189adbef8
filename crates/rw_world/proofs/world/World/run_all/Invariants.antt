use Rattle.std.proofs.Common.{◌≡◌, take}
use Rattle.rw_machine.specs.Steps.{run}
use Rattle.rw_world.proofs.world.World.run_all.Given as goal

abbrev pub invariant-loop-at : goal.invariant-loop-at
invariant-loop-at l = l.self ≡ record l.fn.self { world = run l.fn.self.setup (take l.at l.events) l.fn.self.world }
