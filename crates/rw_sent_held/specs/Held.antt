-- What one receiver holds of a log that was sent.
use Rattle.std.specs.Prelude.{◌≡◌, ℕ, ◌≤◌, Bool, false, List, [], length, map, Option, Result}
use Rattle.std.specs.Ordering.{nat_cmp}
use Rattle.std.specs.FinMap.{FinMap}
use Rattle.rw_types.specs.Labels.{Labels}
use Rattle.rw_wal_format.specs.Pieces.{Piece, entries}
use Rattle.rw_series_cache.specs.Points.{kept_points}
use Rattle.rw_ledger.specs.declared.ledger.Reason.{Reason}
use Rattle.rw_shard_core.specs.Configs.{choice_of}
use Rattle.rw_shard_core.specs.declared.config.ConfigFields.{ConfigFields}
use Rattle.rw_shard_core.specs.declared.outcome.Outcome.TheVariants.{Complete}
use Rattle.rw_head.specs.Head.{State}
use Rattle.rw_head.specs.Store.{Store, list_of}
use Rattle.rw_head.specs.Verdicts.{LabelLimits}
use Rattle.rw_machine.specs.Worlds.{Setup}
use Rattle.rw_machine.specs.Promises.{owed, pair_of}
use Rattle.rw_worker.specs.Transcript.{Exchange}
use Rattle.rw_sender.specs.Reports.{IsAbandoned, parts_of}
use Rattle.rw_sender.specs.Shipping.{Shipping, HasStopped}
use Rattle.rw_sender.specs.declared.report.Report.{Report}
use Rattle.rw_sender.specs.declared.shipper.LogOptions.{LogOptions}
use Rattle.rw_restarts.specs.Arrivals.{Arrival, AreExchangesOf}
use Rattle.rw_simulation.specs.OneReceivers.{IsOneReceiver}
use Rattle.rw_simulation.specs.Received.{IsHeld}
use Rattle.rw_simulation.specs.StoppedRuns.{NamesAll}
use Rattle.rw_follow.specs.declared.signal.StopRequest.{StopRequest}
use Rattle.rw_send.specs.declared.follow_fault.FollowFault.{FollowFault}
use Rattle.rw_send.specs.Logs.{Seen}
use Rattle.rw_send.specs.Segments.{meal_of}
use Rattle.rw_send.specs.Sending.{IsReportOf, IsSent, StopsAtOnce}

-- a sender with this configuration, and a receiver with these limits
abbrev pub machine_of : ConfigFields → LabelLimits → (max_body busy : ℕ) → Setup
machine_of c limits max_body busy = record {
  target = c.target;
  shards = c.shards;
  capacity = c.capacity;
  batch = c.batch;
  choice = choice_of c;
  limits = limits;
  max_body = max_body;
  busy = busy;
}

-- The requests of the workers of a shipper that was stopped come to one receiver, which began empty
-- and holds this store then.
pub record ComesToOne {T : Type 0} (tells : T → Type 0) (seen : T → List Exchange)
    (is_for : ℕ → ℕ → T → Type 0) (c : ConfigFields) (s : Shipping T) (r : Report T)
    (stopped : HasStopped tells seen is_for s r) (store : Store) : Type 0 where
  pub limits : LabelLimits
  pub max_body : ℕ
  pub busy : ℕ
  pub exchanges : ℕ → ℕ → List Exchange
  pub arrivals : List Arrival
  pub heads : ℕ → State
  pub of_workers : AreExchangesOf tells seen is_for stopped.joined stopped.worked exchanges
  pub one : IsOneReceiver (machine_of c limits max_body busy) exchanges arrivals heads
  pub last : (heads (length arrivals)).store ≡ store

-- Of each label set the store holds exactly the samples of this log that the rules keep, in log
-- order, each once, less those that the report names.
pub record HoldsAllOf {T : Type 0} (c : ConfigFields) (pieces : List Piece) (r : Report T)
    (store : Store) : Type 0 where
  pub names : FinMap nat_cmp Reason
  pub named : NamesAll names (parts_of r)
  pub each : (l : Labels)
      → list_of store l ≡ map pair_of (owed names (kept_points (choice_of c) (entries pieces) l))

-- This is true of what was placed (`placed`), if the last epoch of a shipper that abandoned work
-- had at most 1000 shards; and of all that was fed, if the outcome is complete.
pub record Holds {T : Type 0} (c : ConfigFields) (s : Shipping T) (pieces : List Piece)
    (r : Report T) (store : Store) : Type 0 where
  pub placed : (IsAbandoned r.outcome → length s.fleet.current ≤ 1000) → IsHeld s r store
  pub complete : (end : ℕ) → r.outcome ≡ Complete end → HoldsAllOf c pieces r store

-- a log that has no Snappy blocks, and gets no external labels
abbrev pub as_it_is : LogOptions
as_it_is = record { may_compress = false; labels = [] }

-- whichever receiver its requests come to
abbrev pub ReportIsHeld : {T : Type 0} (tells : T → Type 0) (seen : T → List Exchange)
    (is_for : ℕ → ℕ → T → Type 0) (c : ConfigFields) (limit : Option ℕ) (cause : Type 0)
    (pieces : List Piece) (r : Report T)
    → IsReportOf tells seen is_for c limit [] cause pieces r → Type 0
ReportIsHeld tells seen is_for c limit cause pieces r report =
    (store : Store) → ComesToOne tells seen is_for c report.shipping r report.stopped store
    → Holds c report.shipping pieces r store

abbrev pub SentIsHeld : {T : Type 0} → (T → Type 0) → (T → List Exchange) → (ℕ → ℕ → T → Type 0)
    → ConfigFields → Option ℕ → Seen → Bool → StopRequest → Report T
    → Result (Unit {0}) FollowFault → Type 0
SentIsHeld tells seen is_for c limit log quiet said r answer =
    (sent : IsSent tells seen is_for c limit as_it_is log quiet said r answer)
    → ReportIsHeld tells seen is_for c limit (StopsAtOnce log said (meal_of sent.pieces) answer)
    sent.pieces r sent.report
