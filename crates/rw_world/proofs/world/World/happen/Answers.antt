use Rattle.rw_world.proofs.StepLemmas.{reached_by}
use Rattle.rw_world.proofs.world.World.happen.Goals as goal

pub invariant_of-self : goal.invariant_of-self
invariant_of-self c = reached_by c.self.inside.engine c.happen.new.self c.args.event.now c.happen.result c.self.invariant c.happen.ensures.ok c.happen.ensures.err
