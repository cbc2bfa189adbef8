use Rattle.std.proofs.Common.{◌≡◌}
use Rattle.std.specs.Prelude.{filter}
use Rattle.rw_machine.specs.Worlds.{is_pending, up_to}
use Rattle.rw_world.proofs.engine.Engine.pending.Given as goal

abbrev pub invariant-loop-pos : goal.invariant-loop-pos
invariant-loop-pos l = l.samples.items ≡ filter (is_pending l.self.world) (up_to l.pos)
