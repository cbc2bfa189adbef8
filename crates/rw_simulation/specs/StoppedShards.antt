-- What is known of a shard that has stopped makes it a shard of the machine.
use Rattle.std.specs.Prelude.{◌≡◌, ℕ, List}
use Rattle.rw_plain_queue.specs.declared.item.Item.{Item}
use Rattle.rw_worker.specs.Transcript.{Exchange}
use Rattle.rw_worker.specs.Steps.{Step, after}
use Rattle.rw_worker.specs.Setups.{start_of}
use Rattle.rw_fleet.specs.declared.joined.StoppedShard.{StoppedShard}
use Rattle.rw_fleet.specs.Work.{IsWorked, lane_of}
use Rattle.rw_machine.specs.Worlds.{Setup}
use Rattle.rw_simulation.specs.FleetRuns.{IsShardRun}

-- it is set up as shard k of this epoch of the machine
pub record IsShardOf {T : Type 0} (c : Setup) (epoch k : ℕ) (j : StoppedShard T) : Type 0 where
  pub target : j.worker.value.target ≡ c.target
  pub batch : j.worker.value.batch ≡ c.batch
  pub capacity : j.worker.value.queue.capacity ≡ c.capacity
  pub epoch_is : j.worker.value.queue.epoch ≡ epoch
  pub shard_is : j.worker.value.queue.shard ≡ k

-- It is that shard: its worker took what it was put, but for what was left in its queue, in steps
-- that the machine's shard may make; and its part of the ledger is what they make of it.
pub record IsRunOf {T : Type 0} (c : Setup) (epoch k : ℕ) (j : StoppedShard T) : Type 0 where
  pub steps : List Step
  pub rest : List Item
  pub run : IsShardRun c epoch k (lane_of j) steps rest
  pub part : j.part.names ≡ (after (start_of j.worker.value) steps).ledger.names

-- the same for each shard that did what its worker reports
abbrev pub StopsAsShard : {T : Type 0} → (T → Type 0) → (T → List Exchange) → (ℕ → ℕ → T → Type 0) → StoppedShard T → Type 0
StopsAsShard tells seen is_for j = (c : Setup) (epoch k : ℕ) → IsWorked tells seen is_for j → IsShardOf c epoch k j → IsRunOf c epoch k j
