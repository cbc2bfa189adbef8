-- Inner definitions beside those of Shipping.antt: only invariants, private functions and
-- proofs use them.
use Rattle.std.specs.Prelude.{◌≡◌, ◌⊎◌, ◌<◌, ◌≤ℤ◌, List, [], ◌∷◌, ◌++◌, length, map, Option, Some, None, ⊤, ℕ, ℤ}
use Rattle.rw_plain_queue.specs.Items as items
use Rattle.rw_series_cache.specs.declared.sample.RoutedSample.{RoutedSample}
use Rattle.rw_fleet.specs.ShardHistories.{ShardHistory, marks_of}
use Rattle.rw_fleet.specs.Fleets.{Shards}
use Rattle.rw_fleet.specs.declared.running_shard.Fault.{Fault}
use Rattle.rw_types.specs.declared.entry.Entry.{Entry}
use Rattle.rw_wal_format.specs.declared.tail_fault.TailFault.{TailFault}
use Rattle.rw_sender.specs.Feeders.{Sorting, HasReadAll, IsToBeSent, sent_by}
use Rattle.rw_sender.specs.Logs.{sent_of}
use Rattle.rw_sender.specs.Rooms.{Counting}
use Rattle.rw_sender.specs.inner.Cutting.{AreCounted}
use Rattle.rw_sender.specs.Placement.{IsShardCount, AreKept}
use Rattle.rw_sender.specs.declared.place.Progress.{Progress}
use Rattle.rw_sender.specs.declared.place.Progress.TheVariants.{Placed, End}
use Rattle.rw_sender.specs.declared.place.Progress.TheVariants as progress
use Rattle.rw_sender.specs.declared.place.Rest.{Rest}
use Rattle.rw_sender.specs.declared.place.Rest.TheVariants as rest
use Rattle.rw_sender.specs.declared.span.Span.{Span}
use Rattle.rw_sender.specs.Shipping.{HasCompared, PlacesAll}
use Rattle.rw_sender.specs.Skews.{IsPutIn, KeepsSkew, GoesOnPutting, GoesOnWithin, IsRenewed}

-- while it has not failed no entry waits, and there are shards
abbrev pub IsReady : {T : Type 0} → Sorting → Shards T → Option Fault → Type 0
IsReady log fleet None = (log.hand ≡ []) × IsShardCount (length fleet.current)
IsReady log fleet (Some f) = ⊤

-- while it has not failed what the queues were put since their last marks is counted
abbrev pub IsReckoned : {T : Type 0} → Counting → Shards T → Option Fault → Type 0
IsReckoned cuts fleet None = AreCounted cuts.limit cuts.rooms fleet.current
IsReckoned cuts fleet (Some f) = ⊤

-- while it has not failed all entries were placed, and this is the fault after them
abbrev pub IsRead : Sorting → Option Fault → Option TailFault → Type 0
IsRead log None damage = HasReadAll log damage
IsRead log (Some f) damage = ⊤

-- more entries may have been placed, and their samples put: the rest is as it was, and without a
-- limit no mark was put
pub record GoesOn {T : Type 0} (limit : Option ℕ) (old new : Sorting) (was now : Shards T) : Type 0 where
  pub choice : new.choice ≡ old.choice
  pub labels : new.labels ≡ old.labels
  pub pieces : new.pieces ≡ old.pieces
  pub more : List Entry
  pub grown : new.placed ≡ old.placed ++ more
  pub fleet : now ≡ record was { current = now.current }
  pub len : length now.current ≡ length was.current
  pub kept : AreKept was.current now.current
  pub marks : limit ≡ None → map marks_of now.current ≡ map marks_of was.current

-- a sample is in hand that is to be sent
pub record IsWaiting (log : Sorting) (l : RoutedSample) : Type 0 where
  pub entry : Entry
  pub hand : log.hand ≡ entry ∷ []
  pub sent : sent_of log.choice log.placed entry ≡ sent_by l ∷ []
  pub next : IsToBeSent log l.series l.t

-- the entry in hand was placed, or is a sample that is later than the bound allows
abbrev pub IsPlacedOrLate : Sorting → ℕ → Option RoutedSample → Type 0
IsPlacedOrLate log most None = log.hand ≡ []
IsPlacedOrLate log most (Some l) = IsWaiting log l × (most < 18446744073709551615)

-- what one step of the feeder resulted in
abbrev pub Steps : Sorting → ℕ → Progress → Type 0
Steps log most Placed = log.hand ≡ []
Steps log most (progress.Late l) = IsWaiting log l × (most < 18446744073709551615)
Steps log most End = (log.hand ≡ []) × HasReadAll log None
Steps log most (progress.Damaged f) = (log.hand ≡ []) × HasReadAll log (Some f)

-- what many steps resulted in
abbrev pub Rests : Sorting → ℕ → Rest → Type 0
Rests log most (rest.Read found) = (log.hand ≡ []) × HasReadAll log found
Rests log most (rest.Late l) = IsWaiting log l × (most < 18446744073709551615)

-- no sample that these shards were put is earlier
abbrev pub IsSince : ℤ → List ShardHistory → Type 0
IsSince earliest lanes = (a : items.Placed) → IsPutIn lanes a → earliest ≤ℤ a.t

-- samples were put at times that a span notes: they keep its bound, if those before them kept it
pub record IsSpanned (old new : Span) (was now : List ShardHistory) : Type 0 where
  pub most : new.most ≡ old.most
  pub since : IsSince new.earliest now
  pub skew : KeepsSkew old.most was → KeepsSkew old.most now

-- more entries may have been placed: the rest is as it was
pub record IsLonger (old new : Sorting) : Type 0 where
  pub choice : new.choice ≡ old.choice
  pub labels : new.labels ≡ old.labels
  pub pieces : new.pieces ≡ old.pieces
  pub more : List Entry
  pub grown : new.placed ≡ old.placed ++ more

-- the next epoch has begun, and goes on
abbrev pub IsBegun : {T : Type 0} → (limit : Option ℕ) (most : ℕ) → Shards T → Shards T → Type 0
IsBegun {T} limit most was now = (mid : Shards T) × IsRenewed was mid × GoesOnWithin limit most mid now

-- The next epoch could not be begun, after the last one may have been ended; or it has begun, and
-- something may have been put.
abbrev pub IsBroken : {T : Type 0} → (limit : Option ℕ) (most : ℕ) → Sorting → Shards T → Shards T → Type 0
IsBroken {T} limit most log was now =
    (PlacesAll log was × (now.config ≡ was.config) × ((now ≡ was) ⊎ HasCompared was now))
    ⊎ ((mid : Shards T) × IsRenewed was mid × GoesOnPutting limit mid now × (KeepsSkew most mid.current → KeepsSkew most now.current))

-- while it has not failed no sample that was put is earlier
abbrev pub IsTimed : {T : Type 0} → ℤ → Shards T → Option Fault → Type 0
IsTimed earliest fleet None = IsSince earliest fleet.current
IsTimed earliest fleet (Some f) = ⊤
