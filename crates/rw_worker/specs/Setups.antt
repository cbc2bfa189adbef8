-- What a worker is set up with.
use Rattle.std.specs.Prelude.{ℕ}
use Rattle.rw_shard_queue.specs.Ends.{QueueId}
use Rattle.rw_shard_core.specs.declared.config.Target.{Target}
use Rattle.rw_worker.specs.Steps.{Working, new_working}

pub record WorkerSetup : Type 0 where
  pub queue : QueueId
  pub target : Target
  pub batch : ℕ  -- the samples of a full batch
  pub min_backoff : ℕ
  pub max_backoff : ℕ

-- the state of its shard before anything was taken
abbrev pub start_of : WorkerSetup → Working
start_of s = new_working s.target s.queue.epoch s.queue.shard s.batch
