-- How the samples of a log went to the shards of all epochs (Remote-Write 1.0: the samples of a
-- series go out in order): each to one shard, that of its series, by rising position, and later
-- epochs have later samples.
use Rattle.std.specs.Prelude.{◌≡◌, ◌<◌, ℕ, List, length, Some, slice_get}
use Rattle.std.specs.List.{Contains}
use Rattle.rw_types.specs.Rising.{Rises}
use Rattle.rw_fleet.specs.ShardHistories.{ShardHistory}
use Rattle.rw_sender.specs.Logs.{Sent}
use Rattle.rw_sender.specs.Placement.{samples_put, shard_of}

-- the first has the lower position
abbrev pub IsSentBefore : Sent → Sent → Type 0
IsSentBefore x y = x.pos < y.pos

-- the shard numbered k of the epoch numbered e, which has these shards
abbrev pub IsShard : List (List ShardHistory) → ℕ → ℕ → List ShardHistory → ShardHistory → Type 0
IsShard epochs e k lanes l = (slice_get epochs e ≡ Some lanes) × (slice_get lanes k ≡ Some l)

pub record IsSpread (epochs : List (List ShardHistory)) (samples : List Sent) : Type 0 where
  pub numbered : (e k : ℕ) (lanes : List ShardHistory) (l : ShardHistory) → IsShard epochs e k lanes l → (l.setup.queue.epoch ≡ e) × (l.setup.queue.shard ≡ k)
  pub rises : (e k : ℕ) (lanes : List ShardHistory) (l : ShardHistory) → IsShard epochs e k lanes l → Rises IsSentBefore (samples_put l)
  pub each : (x : Sent) → Contains samples x → (e : ℕ) × (k : ℕ) × (lanes : List ShardHistory) × (l : ShardHistory) × IsShard epochs e k lanes l × Contains (samples_put l) x
  pub no_other : (e k : ℕ) (lanes : List ShardHistory) (l : ShardHistory) (x : Sent) → IsShard epochs e k lanes l → Contains (samples_put l) x → Contains samples x × (k ≡ shard_of (length lanes) x.series)
  pub once : (e j k : ℕ) (lanes : List ShardHistory) (l m : ShardHistory) (x y : Sent) → IsShard epochs e j lanes l → IsShard epochs e k lanes m → Contains (samples_put l) x → Contains (samples_put m) y → x.pos ≡ y.pos → j ≡ k
  pub later : (e f j k : ℕ) (lanes others : List ShardHistory) (l m : ShardHistory) (x y : Sent) → IsShard epochs e j lanes l → IsShard epochs f k others m → Contains (samples_put l) x → Contains (samples_put m) y → e < f → x.pos < y.pos
