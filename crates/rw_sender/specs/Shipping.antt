-- What contracts see of a shipper.
use Rattle.std.specs.Prelude.{◌≡◌, ◌⊎◌, List, [], ◌∷◌, ◌++◌, length, map, Option, Some, None, Result, Ok, Err, ℕ}
use Rattle.rw_worker.specs.Transcript.{Exchange}
use Rattle.rw_fleet.specs.ShardHistories.{AreFresh, AreSetUp}
use Rattle.rw_plain_queue.specs.declared.item.Kind.TheVariants.{Reshard}
use Rattle.rw_fleet.specs.Work.{lane_of, finished_of, AreResolved, AreWorked}
use Rattle.rw_fleet.specs.Fleets.{Shards, AreAll, EndBy}
use Rattle.rw_fleet.specs.declared.running_shard.Fault.{Fault}
use Rattle.rw_fleet.specs.declared.running_shard.Fault.TheVariants as queue_fault
use Rattle.rw_types.specs.Beginnings.{Begins}
use Rattle.rw_wal_format.specs.Pieces.{Piece}
use Rattle.rw_ledger.specs.Names.{Named}
use Rattle.rw_shard_core.specs.declared.outcome.Outcome.{Outcome}
use Rattle.rw_shard_core.specs.declared.outcome.Outcome.TheVariants as outcome
use Rattle.rw_fleet.specs.declared.joined.StoppedShard.{StoppedShard}
use Rattle.rw_sender.specs.Feeders.{Sorting, HasReadAll, log_of}
use Rattle.rw_sender.specs.Logs.{sent, named, dropped, filtered}
use Rattle.rw_sender.specs.Placement.{IsPlacing, ArePlaced}
use Rattle.rw_sender.specs.declared.report.Report.{Report}
use Rattle.rw_sender.specs.Reports.{part_of, abandoned_in, workers_of, parts_of}
use Rattle.rw_sender.specs.declared.shipper.FeedFault.{FeedFault}
use Rattle.rw_sender.specs.declared.shipper.FeedFault.TheVariants.{OutOfMemory, Damaged, Gone}

-- the log as far as it was placed, the shards, the fault by which it failed, and how many bytes a
-- batch may take
pub record Shipping (T : Type 0) : Type 0 where
  pub log : Sorting
  pub fleet : Shards T
  pub fault : Option Fault
  pub limit : Option ℕ

-- the shards of all epochs were put the samples of the entries placed
abbrev pub PlacesAll : {T : Type 0} → Sorting → Shards T → Type 0
PlacesAll log fleet = IsPlacing fleet.epoch (map lane_of fleet.ended) fleet.current (sent log.choice log.placed)

-- Each shard of the epoch has ended, by an End that asks for all. The next epoch has a queue only
-- if all that was put is resolved, and nothing was put into those that it has.
abbrev pub HasCompared : {T : Type 0} → Shards T → Shards T → Type 0
HasCompared old new = AreAll old new.ended × EndBy Reshard old (map finished_of new.ended) × ((new.current ≡ []) ⊎ (AreResolved new.ended × AreFresh new.epoch new.current))

abbrev pub feed_fault_of : Fault → FeedFault
feed_fault_of queue_fault.OutOfMemory = OutOfMemory
feed_fault_of queue_fault.Gone = Gone

-- it has failed, if the answer says so
abbrev pub FailsBy : Option Fault → FeedFault → Type 0
FailsBy None e = ⊥
FailsBy (Some f) e = e ≡ feed_fault_of f

-- what a feed that met no earlier fault answers
abbrev pub Feeds : {T : Type 0} → Shipping T → Result (Unit {0}) FeedFault → Type 0
Feeds s (Ok u) = HasReadAll s.log None × (s.fault ≡ None)
Feeds s (Err (Damaged f)) = HasReadAll s.log (Some f) × (s.fault ≡ None)
Feeds s (Err OutOfMemory) = s.fault ≡ Some queue_fault.OutOfMemory
Feeds s (Err Gone) = s.fault ≡ Some queue_fault.Gone

-- the piece joins those that were fed; if memory ran out it may not have
abbrev pub Joins : Sorting → Sorting → Piece → Result (Unit {0}) FeedFault → Type 0
Joins old new piece (Ok u) = new.pieces ≡ old.pieces ++ piece ∷ []
Joins old new piece (Err (Damaged f)) = new.pieces ≡ old.pieces ++ piece ∷ []
Joins old new piece (Err Gone) = new.pieces ≡ old.pieces ++ piece ∷ []
Joins old new piece (Err OutOfMemory) = (new.pieces ≡ old.pieces) ⊎ (new.pieces ≡ old.pieces ++ piece ∷ [])

-- how the work has ended: all is resolved, or these samples are not
abbrev pub HasEndedAs : {T : Type 0} → Shipping T → List (StoppedShard T) → Outcome → Type 0
HasEndedAs s js (outcome.Complete end) = (end ≡ length s.log.placed) × HasReadAll s.log None × AreResolved js
HasEndedAs s js (outcome.Damaged f) = HasReadAll s.log (Some f) × AreResolved js
HasEndedAs s js (outcome.Abandoned placed samples) = (placed ≡ length s.log.placed) × (samples.items ≡ abandoned_in js)

-- The entries placed are the first ones of those fed. The shards of all epochs were put their
-- samples, and did what their workers report; the other samples are named, or counted.
pub record HasStopped {T : Type 0} (tells : T → Type 0) (seen : T → List Exchange) (is_for : ℕ → ℕ → T → Type 0) (s : Shipping T) (r : Report T) : Type 0 where
  pub joined : List (StoppedShard T)
  pub own : Named
  pub workers : workers_of r ≡ map finished_of joined
  pub parts : parts_of r ≡ own ∷ map part_of joined
  pub samples : ArePlaced (map lane_of joined) (sent s.log.choice s.log.placed)
  pub worked : AreWorked tells seen is_for joined
  pub setup : AreSetUp s.fleet.config (map lane_of joined)
  pub all : AreAll s.fleet joined
  pub names : own.names ≡ named (dropped s.log.choice s.log.placed)
  pub filter_count : r.filtered ≡ length (filtered s.log.choice s.log.placed)
  pub read : Begins s.log.placed (log_of s.log)
  pub ends : HasEndedAs s joined r.outcome
