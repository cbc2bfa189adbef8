-- What a turn of a follower does to a shipper. Only invariants, private functions and proofs use
-- these definitions.
use Rattle.std.specs.Prelude.{◌≡◌, ◌⊎◌, ℕ, Bool, List, [], ◌∷◌, ◌++◌, length, map, None, IsSome, Result, ⊤, IfErr, IfOk, OnErr, OnOk}
use Rattle.rw_wal_format.specs.Pieces.{Piece}
use Rattle.rw_follow.specs.Turns.{given_by}
use Rattle.rw_follow.specs.declared.follower.Turn.{Turn}
use Rattle.rw_follow.specs.declared.follower.Turn.TheVariants as turn
use Rattle.rw_follow.specs.declared.signal.StopRequest.{StopRequest}
use Rattle.rw_follow.specs.declared.signal.StopRequest.TheVariants as request
use Rattle.rw_fleet.specs.ShardHistories.{marked}
use Rattle.rw_fleet.specs.Work.{AreResolved}
use Rattle.rw_sender.specs.Placement.{IsShardCount}
use Rattle.rw_sender.specs.Shipping.{Shipping}
use Rattle.rw_types.specs.declared.transfer.ReadFault.TheVariants as read
use Rattle.rw_send.specs.declared.feed_error.FeedError.{FeedError}
use Rattle.rw_send.specs.declared.feed_error.FeedError.TheVariants as error
use Rattle.rw_send.specs.declared.sharding.Sharding.{Sharding}
use Rattle.rw_send.specs.Logs.{HasGivenMore, Seen}
use Rattle.rw_send.specs.Segments.{IsShortLog, AreSoundButLast, meal_of}
use Rattle.rw_send.specs.Steps.{HasBroken, HasLastEpoch, IsLap, KeepsSetup, StaysOpen}
use Rattle.rw_send.specs.inner.EpochSizes.{KeepsEpochSizes}
use Rattle.rw_send.specs.inner.FeedErrors.{HasDamage, IsIntact}

-- Some bytes are put to the same shards, and without a limit put no mark; at the end of a segment
-- their number is set; a flush puts a mark to each; and if nothing is to be done all stays.
abbrev pub IsDone : {T : Type 0} → (fewest most : ℕ) → Turn → Shipping T → Shipping T → Type 0
IsDone fewest most (turn.Piece n) old new = StaysOpen old new
IsDone fewest most turn.Over old new = IsLap fewest most old new
IsDone fewest most turn.Flush old new = new.fleet.current ≡ map marked old.fleet.current
IsDone fewest most turn.Nothing old new = new ≡ old
IsDone fewest most turn.Finished old new = new ≡ old
IsDone fewest most turn.Aborted old new = new ≡ old

-- and if it is not done: it stays within the segment, or at the end of one
abbrev pub IsUndone : {T : Type 0} → (fewest most : ℕ) → Turn → Shipping T → Shipping T → Type 0
IsUndone fewest most (turn.Piece n) old new = StaysOpen old new
IsUndone fewest most turn.Over old new =
    HasBroken fewest most old new ⊎ IsLap fewest most old new
IsUndone fewest most turn.Flush old new = ⊤
IsUndone fewest most turn.Nothing old new = ⊥
IsUndone fewest most turn.Finished old new = ⊥
IsUndone fewest most turn.Aborted old new = ⊥

-- the turn returned some bytes
abbrev pub IsPiece : Turn → Type 0
IsPiece (turn.Piece n) = ⊤
IsPiece turn.Over = ⊥
IsPiece turn.Flush = ⊥
IsPiece turn.Nothing = ⊥
IsPiece turn.Finished = ⊥
IsPiece turn.Aborted = ⊥

-- The log is damaged, the shipper failed, or memory ran out for the bytes of this turn, which were
-- not fed. A shipper reads no segment.
abbrev pub HaltsAt : {T : Type 0} → Turn → Shipping T → Shipping T → FeedError → Type 0
HaltsAt turn old new (error.Damaged f) = HasDamage new (error.Damaged f)
HaltsAt turn old new error.Failed =
    IsSome new.fault ⊎ (IsPiece turn × (new.log.pieces ≡ old.log.pieces))
HaltsAt turn old new error.Unreadable = ⊥
HaltsAt turn old new (error.Missing n) = ⊥
HaltsAt turn old new error.Aborted = ⊥

-- What stays between two shippers, and the number of shards that is answered.
pub record Keeps {T : Type 0} (sharding : Sharding) (old new : Shipping T)
    (result : Result Sharding FeedError) : Type 0 where
  pub kept : KeepsSetup old new
  pub limit : new.fault ≡ None → new.limit ≡ old.limit
  pub shards : IfOk result (λ s. length new.fleet.current ≡ s.shards)
  pub range : IfOk result (λ s. (s.fewest ≡ sharding.fewest) × (s.most ≡ sharding.most))
  pub number : new.fault ≡ None → IsShardCount (length new.fleet.current)
  pub sizes : new.fault ≡ None
      → KeepsEpochSizes sharding.fewest sharding.most old.fleet new.fleet
  pub live : OnOk result (new.fault ≡ None)
  pub intact : OnOk result (IsIntact new)
  pub short : (compresses : Bool) → IsShortLog compresses old.log.pieces
      → IsShortLog compresses new.log.pieces
  pub but_last : AreSoundButLast old.log.pieces → AreSoundButLast new.log.pieces
  pub last : AreResolved old.fleet.ended → HasLastEpoch new
  pub resolved : AreResolved old.fleet.ended → OnOk result (AreResolved new.fleet.ended)

-- A turn that has this buffer is done, by a shipper that has not failed and of which no more shards
-- were asked by the clock.
pub record Goes {T : Type 0} (t : Turn) (buf : List ℕ) (sharding : Sharding) (old new : Shipping T)
    (result : Result Sharding FeedError) : Type 0 where
  pub keeps : Keeps sharding old new result
  pub done : OnOk result (IsDone sharding.fewest sharding.most t old new)
  pub start : IfOk result
      (λ s. (s.placed ≡ sharding.placed) × (s.resolved ≡ sharding.resolved))
  pub fed : OnOk result (meal_of new.log.pieces ≡ given_by t buf (meal_of old.log.pieces))
  pub part : OnErr result ((meal_of new.log.pieces ≡ meal_of old.log.pieces)
      ⊎ (meal_of new.log.pieces ≡ given_by t buf (meal_of old.log.pieces)))
  pub halts : IfErr result (HaltsAt t old new)
  pub halted : OnErr result (IsUndone sharding.fewest sharding.most t old new)

-- the same, after the number of shards may have been set, if the clock asked
pub record Reshards {T : Type 0} (t : Turn) (buf : List ℕ) (sharding : Sharding)
    (old new : Shipping T) (result : Result Sharding FeedError) : Type 0 where
  pub keeps : Keeps sharding old new result
  pub fed : OnOk result (meal_of new.log.pieces ≡ given_by t buf (meal_of old.log.pieces))
  pub part : OnErr result ((meal_of new.log.pieces ≡ meal_of old.log.pieces)
      ⊎ (meal_of new.log.pieces ≡ given_by t buf (meal_of old.log.pieces)))
  pub halts : IfErr result (HaltsAt t old new)

-- A piece was fed over as many epochs as a bound on their samples takes, each of as many shards.
pub record IsFedOver {T : Type 0} (sharding : Sharding) (piece : Piece) (old new : Shipping T)
    (result : Result Sharding FeedError) : Type 0 where
  pub keeps : Keeps sharding old new result
  pub joined : OnOk result (new.log.pieces ≡ old.log.pieces ++ piece ∷ [])
  pub part : OnErr result ((new.log.pieces ≡ old.log.pieces)
      ⊎ (new.log.pieces ≡ old.log.pieces ++ piece ∷ []))
  pub halts : (t : Turn) → IfErr result (HaltsAt t old new)

-- Why a reading ended other than as it was asked to finish: a damaged log has that fault; the
-- shipper failed, memory ran out for bytes that the log has returned, or a call of the log failed;
-- a segment that is reported as missing is missing in the log; or an end at once was asked for.
abbrev pub IsCut : {T : Type 0} → Shipping T → Seen → StopRequest → FeedError → Type 0
IsCut s log said (error.Damaged f) = HasDamage s (error.Damaged f)
IsCut s log said error.Failed =
    IsSome s.fault ⊎ (HasGivenMore log (meal_of s.log.pieces) ⊎ log.may_fail read.OutOfMemory)
IsCut s log said error.Unreadable = log.may_fail read.Failed
IsCut s log said (error.Missing n) = log.lacks n
IsCut s log said error.Aborted = said ≡ request.Abort
