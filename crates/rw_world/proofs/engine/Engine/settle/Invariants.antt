use Rattle.rw_world.specs.inner.Rounds.{HasSettled}
use Rattle.rw_world.proofs.engine.Engine.settle.Given as goal

abbrev pub invariant-rounds : goal.invariant-rounds
invariant-rounds l = HasSettled l.fn.self l.self
