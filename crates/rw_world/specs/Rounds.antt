-- A round of an orderly shutdown.
use Rattle.std.specs.Prelude.{◌≡◌, ℕ}
use Rattle.rw_machine.specs.Settling.{settle_world, settle_events}
use Rattle.rw_machine.specs.Steps.{run}
use Rattle.rw_world.specs.Machine.{Machine}

-- whole rounds of an orderly shutdown, with their events, led from one to the other
pub record HasShutDown (old new : Machine) : Type 0 where
  pub rounds : ℕ
  pub settled : new ≡ record old { world = settle_world old.setup rounds old.world }
  pub scheduled : new ≡ record old { world = run old.setup (settle_events old.setup rounds old.world) old.world }
