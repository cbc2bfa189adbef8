-- How the segments of a log are shipped one after another, and how many shards there are for each.
use Rattle.std.specs.Prelude.{◌≡◌, ◌⊎◌, ℕ, zero, suc, ◌≤◌, ◌+◌, ◌-◌, Bool, [], ◌∷◌, ◌++◌, Option, None, length, map}
use Rattle.rw_types.specs.Beginnings.{Begins}
use Rattle.rw_wal_format.specs.Pieces.{begun_log, next_segment}
use Rattle.rw_follow.specs.Meals.{Meal, with_next}
use Rattle.rw_fleet.specs.Fleets.{Shards, AreAll}
use Rattle.rw_fleet.specs.ShardHistories.{AreFresh, marks_of}
use Rattle.rw_fleet.specs.Loads.{IsLoad}
use Rattle.rw_fleet.specs.Work.{AreResolved}
use Rattle.rw_fleet.specs.declared.load.Load.{Load}
use Rattle.rw_reshard.specs.Wanted.{wanted}
use Rattle.rw_shard_core.specs.declared.config.ConfigFields.{ConfigFields}
use Rattle.rw_sender.specs.Feeders.{log_of, setup_of}
use Rattle.rw_sender.specs.Shipping.{Shipping, HasCompared, PlacesAll}
use Rattle.rw_send.specs.Segments.{meal_of}

-- more may have been fed, and put to the same shards, and without a limit in bytes no mark
pub record StaysOpen {T : Type 0} (old new : Shipping T) : Type 0 where
  pub setup : setup_of new.log ≡ setup_of old.log
  pub pieces : Begins old.log.pieces new.log.pieces
  pub fleet : new.fleet ≡ record old.fleet { current = new.fleet.current }
  pub shards : length new.fleet.current ≡ length old.fleet.current
  pub limit : new.limit ≡ old.limit
  pub marks : old.limit ≡ None → map marks_of new.fleet.current ≡ map marks_of old.fleet.current

-- which series are sent, their external labels and the configuration stay
abbrev pub KeepsSetup : {T : Type 0} → Shipping T → Shipping T → Type 0
KeepsSetup old new = (setup_of new.log ≡ setup_of old.log) × (new.fleet.config ≡ old.fleet.config)

-- how many shards are wanted if there are n, under this load
abbrev pub wanted_under : (fewest most n : ℕ) → Load → ℕ
wanted_under fewest most n load = wanted n load.placed load.resolved load.backlog fewest most

-- the same, by what was placed and resolved beyond these numbers
abbrev pub wanted_since : (fewest most n placed resolved : ℕ) → Load → ℕ
wanted_since fewest most n placed resolved load = wanted n (load.placed - placed) (load.resolved - resolved) load.backlog fewest most

-- the next epoch has begun, once all that was put in those before it was resolved
pub record IsNextEpoch {T : Type 0} (old new : Shards T) : Type 0 where
  pub compared : HasCompared old new
  pub resolved : AreResolved new.ended
  pub epoch : new.epoch ≡ old.epoch + 1
  pub fresh : AreFresh new.epoch new.current

-- there are as many shards as are wanted under the load; if there were as many before, all stays as
-- it is
pub record IsSet {T : Type 0} (fewest most : ℕ) (old new : Shipping T) : Type 0 where
  pub load : Load
  pub advised : IsLoad old.fleet load
  pub shards : length new.fleet.current ≡ wanted_under fewest most (length old.fleet.current) load
  pub log : new.log ≡ old.log
  pub limit : new.limit ≡ old.limit
  pub stays : length new.fleet.current ≡ length old.fleet.current → new ≡ old
  pub epoch : (new ≡ old) ⊎ IsNextEpoch old.fleet new.fleet

-- all entries of the pieces that were fed were placed, and the shards were put their samples
abbrev pub HasPutAll : {T : Type 0} → Shipping T → Type 0
HasPutAll s = (s.log.placed ≡ log_of s.log) × PlacesAll s.log s.fleet

-- A segment is over: all that was fed was put to the shards, then their number was set, and then
-- the end of the segment was fed, and what follows of the next one.
pub record IsLap {T : Type 0} (fewest most : ℕ) (old new : Shipping T) : Type 0 where
  pub put : HasPutAll old
  pub between : Shipping T
  pub set : IsSet fewest most old between
  pub stays : StaysOpen between new
  pub begins : Begins (old.log.pieces ++ next_segment ∷ []) new.log.pieces
  pub ends : (meal_of new.log.pieces).whole ≡ (with_next (meal_of old.log.pieces)).whole

-- the number of shards could not be set
pub record IsUnset {T : Type 0} (old new : Shipping T) : Type 0 where
  pub log : new.log ≡ old.log
  pub limit : new.limit ≡ old.limit
  pub fleet : (new.fleet ≡ old.fleet) ⊎ HasCompared old.fleet new.fleet

-- this many segments are over, one after the other, and the next one is being fed
abbrev pub HasLapped : {T : Type 0} → (fewest most : ℕ) → ℕ → Shipping T → Shipping T → Type 0
HasLapped fewest most zero old new = StaysOpen old new
HasLapped {T} fewest most (suc n) old new =
    (last : Shipping T) × HasLapped fewest most n old last × IsLap fewest most last new

-- the end of a segment was not fed: the number of shards could not be set, or was set before
pub record HasBroken {T : Type 0} (fewest most : ℕ) (old new : Shipping T) : Type 0 where
  pub put : HasPutAll old
  pub pieces : new.log.pieces ≡ old.log.pieces
  pub how : IsUnset old new
      ⊎ ((between : Shipping T) × IsSet fewest most old between × StaysOpen between new)

-- This was fed, over one segment after the other. Or the end of the current one was not, at the end
-- of what was read of it (`gave` says whether something is what was read).
abbrev pub HasComeTo : {T : Type 0} → (fewest most : ℕ) → (gave : Meal → Type 0) → Meal
    → Shipping T → Shipping T → Type 0
HasComeTo {T} fewest most gave fed old new = HasLapped fewest most (length fed.whole) old new
    ⊎ (gave (with_next fed) × ((last : Shipping T)
    × HasLapped fewest most (length fed.whole) old last × HasBroken fewest most last new))

-- a shipper with as many shards as are configured and this limit in bytes, which was fed nothing of
-- a log that may have Snappy blocks or has none
pub record HasStarted {T : Type 0} (c : ConfigFields) (limit : Option ℕ) (compresses : Bool)
    (s : Shipping T) : Type 0 where
  pub pieces : s.log.pieces ≡ begun_log compresses
  pub ended : s.fleet.ended ≡ []
  pub epoch : s.fleet.epoch ≡ 0
  pub shards : length s.fleet.current ≡ c.shards
  pub fresh : AreFresh 0 s.fleet.current
  pub limit_is : s.limit ≡ limit

-- The fleet before its last shards were ended: that of the shipper; or, if a change of the number
-- of shards failed that had ended them and begun no others, the fleet before it. All that was put
-- in the epochs before is resolved.
pub record HasLastEpoch {T : Type 0} (s : Shipping T) : Type 0 where
  pub before : Shards T
  pub resolved : AreResolved before.ended
  pub some : 1 ≤ length before.current
  pub few : length s.fleet.current ≤ 1000 → length before.current ≤ 1000
  pub is : (before ≡ s.fleet)
      ⊎ ((s.fleet.current ≡ []) × AreAll before s.fleet.ended × PlacesAll s.log before)
