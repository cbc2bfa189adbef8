-- How far apart in time the samples are that may wait for an answer together, and the epochs that
-- are begun so that they are not farther apart.
use Rattle.std.specs.Prelude.{◌≡◌, ◌⊎◌, ℕ, zero, suc, ℤ, pos, ◌+◌, ◌<◌, ◌+ℤ◌, ◌≤ℤ◌, List, length, map, Option, Some, None, slice_get}
use Rattle.rw_plain_queue.specs.Items.{Placed, samples_in}
use Rattle.rw_fleet.specs.ShardHistories.{ShardHistory, AreFresh, marks_of}
use Rattle.rw_fleet.specs.Work.{AreResolved}
use Rattle.rw_fleet.specs.Fleets.{Shards}
use Rattle.rw_sender.specs.Placement.{AreKept}
use Rattle.rw_sender.specs.Cutting.{AreCutBy}
use Rattle.rw_sender.specs.Feeders.{Sorting}
use Rattle.rw_sender.specs.Shipping.{HasCompared, PlacesAll}

-- one of these shards was put the sample
abbrev pub IsPutIn : List ShardHistory → Placed → Type 0
IsPutIn lanes a = (k m : ℕ) × (lane : ShardHistory) × (slice_get lanes k ≡ Some lane) × (slice_get (samples_in lane.put) m ≡ Some a)

-- no sample that these shards were put is later than one before it in the log by more than this
-- many milliseconds
abbrev pub KeepsSkew : ℕ → List ShardHistory → Type 0
KeepsSkew most lanes = (a b : Placed) → IsPutIn lanes a → IsPutIn lanes b → a.place.pos < b.place.pos → b.t ≤ℤ (a.t +ℤ pos most)

-- the same shards, which may have been put more: without a limit no mark
pub record GoesOnPutting {T : Type 0} (limit : Option ℕ) (was now : Shards T) : Type 0 where
  pub fleet : now ≡ record was { current = now.current }
  pub len : length now.current ≡ length was.current
  pub kept : AreKept was.current now.current
  pub marks : limit ≡ None → map marks_of now.current ≡ map marks_of was.current

-- the next epoch has begun with as many shards, once all that was put in those before it was
-- resolved
pub record IsRenewed {T : Type 0} (was now : Shards T) : Type 0 where
  pub own : (k : ℕ) (lane : ShardHistory) → slice_get was.current k ≡ Some lane → lane.setup.queue.epoch ≡ was.epoch
  pub compared : HasCompared was now
  pub resolved : AreResolved now.ended
  pub epoch : now.epoch ≡ was.epoch + 1
  pub fresh : AreFresh now.epoch now.current
  pub len : length now.current ≡ length was.current
  pub config : now.config ≡ was.config

-- An epoch goes on: what it was put is cut by the limit, and keeps the bound if the epoch kept it
-- before.
pub record GoesOnWithin {T : Type 0} (limit : Option ℕ) (most : ℕ) (was now : Shards T) : Type 0 where
  pub putting : GoesOnPutting limit was now
  pub cut : AreCutBy limit was.current now.current
  pub skew : KeepsSkew most was.current → KeepsSkew most now.current

-- this many epochs went on and ended, one after the other
abbrev pub HasTurned : {T : Type 0} → (limit : Option ℕ) (most : ℕ) → ℕ → Shards T → Shards T → Type 0
HasTurned limit most zero was now = now ≡ was
HasTurned {T} limit most (suc n) was now = (mid last : Shards T) × HasTurned limit most n was mid × GoesOnWithin limit most mid last × IsRenewed last now

-- epochs ended, and the last one goes on
pub record GoesWhole {T : Type 0} (limit : Option ℕ) (most : ℕ) (was now : Shards T) : Type 0 where
  pub epochs : ℕ
  pub begun : Shards T
  pub turned : HasTurned limit most epochs was begun
  pub within : GoesOnWithin limit most begun now

-- The same, but what was put last may not be cut by the limit, and the last epoch may have ended
-- because the next one could not be begun.
pub record GoesOver {T : Type 0} (limit : Option ℕ) (most : ℕ) (log : Sorting) (was now : Shards T) : Type 0 where
  pub epochs : ℕ
  pub begun : Shards T
  pub turned : HasTurned limit most epochs was begun
  pub last : Shards T
  pub putting : GoesOnPutting limit begun last
  pub skew : KeepsSkew most begun.current → KeepsSkew most last.current
  pub shut : (now ≡ last) ⊎ (PlacesAll log last × HasCompared last now × (now.config ≡ last.config))
