-- Inner definitions beside those of Arriving.antt: only invariants, private functions and
-- proofs use them.
use Rattle.std.specs.Prelude.{◌≡◌, ℕ, List, All}
use Rattle.rw_shard_core.specs.declared.config.Target.{Target}
use Rattle.rw_machine.specs.Worlds.{Request}
use Rattle.rw_world.specs.Answering.{IsSentTo}

-- the receiver is where requests are sent, and all of them are requests to it
pub record IsServed (target : Target) (host path : List ℕ) (requests : List Request) : Type 0 where
  pub host_is : target.host ≡ host
  pub path_is : target.path ≡ path
  pub sent : All (IsSentTo host path) requests
