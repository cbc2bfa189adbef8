-- Inner definitions beside those of Reached.antt: only invariants, private functions and
-- proofs use them.
use Rattle.std.specs.Prelude.{◌≡◌, List}
use Rattle.rw_machine.specs.declared.event.Event.{Event}
use Rattle.rw_machine.specs.Worlds.{start}
use Rattle.rw_machine.specs.Steps.{run}
use Rattle.rw_machine.specs.Promises.{CanWork}
use Rattle.rw_world.specs.Machine.{Machine}

-- there are events that led to it, from a start that leaves room to work
pub record IsReached (m : Machine) : Type 0 where
  pub can : CanWork m.setup
  pub events : List Event
  pub reached : m.world ≡ run m.setup events (start m.setup)
