-- How far the samples of all shards have come.
use Rattle.std.specs.Prelude.{◌≡◌, ℕ, ◌+◌, ◌≤◌, List, length, min}
use Rattle.std.specs.List.{sum_by}
use Rattle.rw_plain_queue.specs.Items.{places_in}
use Rattle.rw_shard_core.specs.declared.config.ConfigFields.{ConfigFields}
use Rattle.rw_fleet.specs.ShardHistories.{ShardHistory}
use Rattle.rw_fleet.specs.Fleets.{Shards}
use Rattle.rw_fleet.specs.declared.joined.StoppedShard.{StoppedShard}
use Rattle.rw_fleet.specs.declared.load.Load.{Load}
use Rattle.rw_worker.specs.Report.{counted_to}

-- this many samples are resolved for certain, and this many may not be
abbrev pub load_of : ℕ → ℕ → Load
load_of resolved left = record { placed = counted_to (resolved + left); resolved = counted_to resolved; backlog = counted_to left }

abbrev pub resolved_in : {T : Type 0} → StoppedShard T → ℕ
resolved_in j = j.finished.resolved

abbrev pub left_in_shard : {T : Type 0} → StoppedShard T → ℕ
left_in_shard j = length j.abandoned.items

-- how many samples a shard was put
abbrev pub count_in : ShardHistory → ℕ
count_in lane = length (places_in lane.put)

-- of a shard at work as many samples may not be resolved as can wait
abbrev pub left_at_work : ℕ → ShardHistory → ℕ
left_at_work window lane = min (count_in lane) window

-- how many of the samples that a shard was put can wait to be resolved
abbrev pub window_of : ConfigFields → ℕ
window_of config = config.capacity + config.batch

-- this many samples are resolved and this many are left, and beside them those that the shards at
-- work were put: some of these wait, at most as many as can
pub record IsAdvised (window : ℕ) (lanes : List ShardHistory) (resolved left : ℕ) (load : Load) : Type 0 where
  pub settled : ℕ
  pub waiting : ℕ
  pub all : settled + waiting ≡ sum_by count_in lanes
  pub few : waiting ≤ sum_by (left_at_work window) lanes
  pub load_is : load ≡ load_of (resolved + settled) (left + waiting)

-- of the shards that have ended, and of those at work
abbrev pub IsLoad : {T : Type 0} → Shards T → Load → Type 0
IsLoad s load = IsAdvised (window_of s.config) s.current (sum_by resolved_in s.ended) (sum_by left_in_shard s.ended) load
