use Rattle.rw_world.specs.Machine.{setup_of}
use Rattle.rw_world.proofs.StepLemmas.{reached_start}
use Rattle.rw_world.proofs.world.World.new.Goals as goal

pub invariant_of-result : goal.invariant_of-result
invariant_of-result c = reached_start c.in_ok-engine.engine (setup_of c.args.config c.args.limits) c.in_ok-engine.ensures.start c.in_ok-engine.ensures.can
