-- The shards of an epoch as their feeder sees them.
use Rattle.std.specs.Prelude.{◌≡◌, ℕ, ◌≤◌, ◌^◌, List, [], ◌∷◌, ◌++◌, length, set, Some, slice_get, ⊤}
use Rattle.std.specs.Arc.{arc_value}
use Rattle.rw_shard_core.specs.declared.config.ConfigFields.{ConfigFields}
use Rattle.rw_plain_queue.specs.Items.{Placed, samples_in, places_in}
use Rattle.rw_plain_queue.specs.declared.item.Item.{Item}
use Rattle.rw_plain_queue.specs.declared.item.Item.TheVariants as item
use Rattle.rw_worker.specs.Setups.{WorkerSetup}
use Rattle.rw_series_cache.specs.declared.sample.RoutedSample.{RoutedSample}

-- what a shard's worker is set up with, its queue among it, and what was put into the queue
pub record ShardHistory : Type 0 where
  pub setup : WorkerSetup
  pub put : List Item

abbrev pub put_into : ShardHistory → List Item
put_into lane = lane.put

-- a worker sends as it was configured, out of a queue of that capacity
abbrev pub IsSetUp : ConfigFields → WorkerSetup → Type 0
IsSetUp config setup =
    (setup.target ≡ config.target) × (setup.batch ≡ config.batch) × (setup.queue.capacity ≡ config.capacity)
    × (setup.min_backoff ≡ config.min_backoff_ms) × (setup.max_backoff ≡ config.max_backoff_ms)

abbrev pub AreSetUp : ConfigFields → List ShardHistory → Type 0
AreSetUp config [] = ⊤
AreSetUp config (l ∷ ls) = IsSetUp config l.setup × AreSetUp config ls

-- a sample of the log as the next one of a shard
abbrev pub put_as : ShardHistory → RoutedSample → Placed
put_as lane s = record {
  place = record { epoch = lane.setup.queue.epoch; shard = lane.setup.queue.shard; seq = length (places_in lane.put); pos = s.pos; series = s.series };
  t = s.t;
  word = s.word;
  labels = arc_value s.labels;
}

-- and as an item of its queue
abbrev pub item_as : ShardHistory → RoutedSample → Item
item_as lane s = item.Sample (put_as lane s).place s.t s.word s.labels

-- the marks among items, without the samples
abbrev pub marks_in : List Item → List Item
marks_in [] = []
marks_in (item.Sample place t word labels ∷ xs) = marks_in xs
marks_in (item.Flush ∷ xs) = item.Flush ∷ marks_in xs
marks_in (item.End kind ∷ xs) = item.End kind ∷ marks_in xs

-- the marks that a shard was put
abbrev pub marks_of : ShardHistory → List Item
marks_of lane = marks_in lane.put

-- the shard numbered k was put one sample more, the others nothing
pub record IsPut (k : ℕ) (s : RoutedSample) (old new : List ShardHistory) : Type 0 where
  pub was : ShardHistory
  pub now : ShardHistory
  pub at : slice_get old k ≡ Some was
  pub setup : now.setup ≡ was.setup
  pub put : samples_in now.put ≡ samples_in was.put ++ put_as was s ∷ []
  pub marks : marks_in now.put ≡ marks_in was.put
  pub items : now.put ≡ was.put ++ item_as was s ∷ []
  pub is : new ≡ set old k now

-- the shard numbered k was put as many samples as are counted
abbrev pub IsUsedUp : ℕ → List ShardHistory → Type 0
IsUsedUp k lanes = (lane : ShardHistory) × (slice_get lanes k ≡ Some lane) × (2 ^ 60 ≤ length (places_in lane.put))

-- the same shards, each with the same samples
abbrev pub AreSame : List ShardHistory → List ShardHistory → Type 0
AreSame [] [] = ⊤
AreSame [] (q ∷ qs) = ⊥
AreSame (p ∷ ps) [] = ⊥
AreSame (p ∷ ps) (q ∷ qs) = (q.setup ≡ p.setup) × (samples_in q.put ≡ samples_in p.put) × AreSame ps qs

-- the shards of an epoch, numbered, each with nothing put
abbrev pub AreFresh : ℕ → List ShardHistory → Type 0
AreFresh epoch lanes = (k : ℕ) (l : ShardHistory) → slice_get lanes k ≡ Some l → (l.setup.queue.epoch ≡ epoch) × (l.setup.queue.shard ≡ k) × (l.put ≡ [])

-- with a Flush put
abbrev pub marked : ShardHistory → ShardHistory
marked l = record l { put = l.put ++ item.Flush ∷ [] }

-- the shard numbered k was put a Flush, the others nothing
pub record IsMarked (k : ℕ) (old new : List ShardHistory) : Type 0 where
  pub was : ShardHistory
  pub at : slice_get old k ≡ Some was
  pub is : new ≡ set old k (marked was)
