-- Where the samples of a log went (Remote-Write 1.0: the samples of a series go out in order): each
-- to the shard of its series, epoch after epoch.
use Rattle.std.specs.Prelude.{◌≡◌, ℕ, suc, ◌≤◌, ◌%◌, ◌==◌, List, [], ◌∷◌, ◌++◌, length, map, filter, Some, slice_get, ⊤}
use Rattle.rw_plain_queue.specs.Items.{Placed, samples_in}
use Rattle.rw_plain_queue.specs.declared.item.Kind.TheVariants.{Reshard}
use Rattle.rw_fleet.specs.ShardHistories.{ShardHistory, put_into}
use Rattle.rw_fleet.specs.Work.{AreEndedBy}
use Rattle.rw_sender.specs.Logs.{Sent}

-- a sample that was put, without the shard's numbers
abbrev pub as_sent : Placed → Sent
as_sent p = record { pos = p.place.pos; series = p.place.series; t = p.t; word = p.word; labels = p.labels }

-- the samples that a shard was put
abbrev pub samples_put : ShardHistory → List Sent
samples_put lane = map as_sent (samples_in lane.put)

-- the same shard with the samples that it had, and maybe more after them
abbrev pub IsExtended : ShardHistory → ShardHistory → Type 0
IsExtended old new = (new.setup ≡ old.setup) × (more : List Placed) × (samples_in new.put ≡ samples_in old.put ++ more)

-- the same for each of the shards: what was put is not taken back
abbrev pub AreKept : List ShardHistory → List ShardHistory → Type 0
AreKept [] [] = ⊤
AreKept [] (q ∷ qs) = ⊥
AreKept (p ∷ ps) [] = ⊥
AreKept (p ∷ ps) (q ∷ qs) = IsExtended p q × AreKept ps qs

-- the shard of a series, among this many
abbrev pub shard_of : ℕ → ℕ → ℕ
shard_of shards series = series % shards

abbrev pub of_shard : ℕ → ℕ → List Sent → List Sent
of_shard shards k samples = filter (λ s. shard_of shards s.series == k) samples

-- the shards of one epoch were put these samples: each shard those of its series, in this order
pub record IsDealt (epoch : ℕ) (lanes : List ShardHistory) (samples : List Sent) : Type 0 where
  pub each : (k : ℕ) (l : ShardHistory) → slice_get lanes k ≡ Some l → (l.setup.queue.epoch ≡ epoch) × (l.setup.queue.shard ≡ k) × (samples_put l ≡ of_shard (length lanes) k samples)
  pub none : lanes ≡ [] → samples ≡ []

-- the shards of these epochs were put these samples, one epoch after the other
abbrev pub Places : ℕ → List (List ShardHistory) → List Sent → Type 0
Places epoch [] samples = samples ≡ []
Places epoch (lanes ∷ later) samples = (first : List Sent) × (rest : List Sent) × (samples ≡ first ++ rest) × IsDealt epoch lanes first × Places (suc epoch) later rest

abbrev pub joined_epochs : List (List ShardHistory) → List ShardHistory
joined_epochs [] = []
joined_epochs (lanes ∷ later) = lanes ++ joined_epochs later

-- an epoch has 1 to 1000 shards
abbrev pub IsShardCount : ℕ → Type 0
IsShardCount n = (1 ≤ n) × (n ≤ 1000)

-- each of these epochs had this many shards, and they were ended because their number changed
abbrev pub AreTurned : List (List ShardHistory) → Type 0
AreTurned [] = ⊤
AreTurned (lanes ∷ later) = IsShardCount (length lanes) × AreEndedBy Reshard (map put_into lanes) × AreTurned later

-- the shards that ended and those of this epoch were put these samples
pub record IsPlacing (epoch : ℕ) (ended : List ShardHistory) (current : List ShardHistory) (samples : List Sent) : Type 0 where
  pub epochs : List (List ShardHistory)
  pub ended_is : ended ≡ joined_epochs epochs
  pub numbered : epoch ≡ length epochs
  pub turned : AreTurned epochs
  pub before : List Sent
  pub fresh : List Sent
  pub all : samples ≡ before ++ fresh
  pub placed : Places 0 epochs before
  pub dealt : IsDealt epoch current fresh

-- the shards of all epochs were put these samples
abbrev pub ArePlaced : List ShardHistory → List Sent → Type 0
ArePlaced lanes samples = (epochs : List (List ShardHistory)) × (lanes ≡ joined_epochs epochs) × Places 0 epochs samples
