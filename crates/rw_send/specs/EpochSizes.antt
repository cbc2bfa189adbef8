-- How many shards the epochs of a log that is followed have.
use Rattle.std.specs.Prelude.{◌≡◌, ℕ, zero, suc, ◌≤◌, ◌<◌, ◌==◌, List, length, map, filter}
use Rattle.rw_fleet.specs.Fleets.{Shards}
use Rattle.rw_fleet.specs.ShardHistories.{ShardHistory}
use Rattle.rw_fleet.specs.Work.{lane_of}

-- how many of these shards an epoch had
abbrev pub shards_in : ℕ → List ShardHistory → ℕ
shards_in epoch lanes = length (filter (λ (l : ShardHistory). l.setup.queue.epoch == epoch) lanes)

-- epoch 0 may have this number of shards alone, each later one from the fewest to the most
abbrev pub IsEpochSize : (first fewest most : ℕ) → (epoch : ℕ) → ℕ → Type 0
IsEpochSize first fewest most zero n = n ≡ first
IsEpochSize first fewest most (suc epoch) n = (fewest ≤ n) × (n ≤ most)

-- each epoch that has ended had as many shards as it may, and the one at work has; no shard has
-- ended of an epoch that is at work or is to come
pub record HasEpochSizes {T : Type 0} (first fewest most : ℕ) (s : Shards T) : Type 0 where
  pub ended : (epoch : ℕ) → epoch < s.epoch → IsEpochSize first fewest most epoch (shards_in epoch (map lane_of s.ended))
  pub current : IsEpochSize first fewest most s.epoch (length s.current)
  pub later : (epoch : ℕ) → s.epoch ≤ epoch → shards_in epoch (map lane_of s.ended) ≡ 0
