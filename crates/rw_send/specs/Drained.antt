-- A shipper of which all that was fed is resolved.
use Rattle.std.specs.Prelude.{◌≡◌, ◌⊎◌, ℕ, ◌≤◌, None, length}
use Rattle.rw_follow.specs.Meals.{Meal}
use Rattle.rw_follow.specs.declared.follower.Turn.{Turn}
use Rattle.rw_follow.specs.declared.follower.Turn.TheVariants as turn
use Rattle.rw_fleet.specs.ShardHistories.{AreFresh}
use Rattle.rw_fleet.specs.Work.{AreResolved}
use Rattle.rw_sender.specs.Shipping.{Shipping, HasCompared}
use Rattle.rw_send.specs.Steps.{HasPutAll}
use Rattle.rw_send.specs.declared.sharding.Sharding.{Sharding}
use Rattle.rw_send.specs.inner.EpochSizes.{KeepsEpochSizes}

-- All that was fed was put to the shards of epochs that have ended, and is resolved: acknowledged,
-- or listed as dropped.
pub record IsDrained {T : Type 0} (s : Shipping T) : Type 0 where
  pub live : s.fault ≡ None
  pub put : HasPutAll s
  pub resolved : AreResolved s.fleet.ended
  pub fresh : AreFresh s.fleet.epoch s.fleet.current

-- Nothing was fed, and all is as it was, or the next epoch has begun with about as many shards.
pub record IsSoon {T : Type 0} (sharding : Sharding) (old new : Shipping T) (next : Sharding) : Type 0 where
  pub log : new.log ≡ old.log
  pub limit : new.limit ≡ old.limit
  pub compared : (new.fleet ≡ old.fleet) ⊎ HasCompared old.fleet new.fleet
  pub sizes : KeepsEpochSizes sharding.fewest sharding.most old.fleet new.fleet
  pub shards : length new.fleet.current ≡ next.shards
  pub range : (next.fewest ≡ sharding.fewest) × (next.most ≡ sharding.most)
  pub start : (next.placed ≡ sharding.placed) × (next.resolved ≡ sharding.resolved)
  pub live : new.fault ≡ None

-- How many bytes of the current segment were fed, if this was fed before the turn: none of the one
-- that a turn begins.
abbrev pub begun_at : Turn → Meal → ℕ
begun_at (turn.Piece n) meal = length meal.begun
begun_at turn.Over meal = 0
begun_at turn.Flush meal = length meal.begun
begun_at turn.Nothing meal = length meal.begun
begun_at turn.Finished meal = length meal.begun
begun_at turn.Aborted meal = length meal.begun

-- a count of this many, unless they are more than 64 bits can count
abbrev pub IsCount : ℕ → ℕ → Type 0
IsCount n len = (n ≡ len) ⊎ ((n ≡ 18446744073709551615) × (18446744073709551615 ≤ len))
