use Rattle.rw_simulation.proofs.StoppedShards.{stops-as-shard}
use Rattle.rw_simulation.proofs.laws.a_stopped_shard_is_a_run.Goals as goal

pub returns : goal.returns
returns c s j = stops-as-shard _ _ _ j
