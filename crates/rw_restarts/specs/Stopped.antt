-- A shipper that was stopped, as one run of a sender.
use Rattle.std.specs.Prelude.{◌≡◌, ℕ, zero, suc, ◌+◌, ◌<◌, true, false, List, [], ◌∷◌, length, map, take, Some, Ok, slice_get}
use Rattle.rw_types.specs.Beginnings.{Begins}
use Rattle.rw_types.specs.Labels.{Labels}
use Rattle.rw_types.specs.declared.entry.Entry.{Entry}
use Rattle.rw_types.specs.declared.entry.Entry.TheVariants.{Sample}
use Rattle.rw_series_cache.specs.Known.{Kept, known}
use Rattle.rw_ledger.specs.declared.ledger.Reason.{Reason}
use Rattle.rw_head.specs.Growth.{EachRises}
use Rattle.rw_head.specs.Head.{State}
use Rattle.rw_head.specs.Order.{Point, holds}
use Rattle.rw_head.specs.Store.{Store, list_of}
use Rattle.rw_head.specs.Verdicts.{LabelLimits}
use Rattle.rw_machine.specs.Worlds.{Setup}
use Rattle.rw_worker.specs.declared.transport.Reply.{Reply}
use Rattle.rw_worker.specs.Steps.{Step}
use Rattle.rw_worker.specs.Transcript.{Exchange}
use Rattle.rw_fleet.specs.ShardHistories.{ShardHistory}
use Rattle.rw_fleet.specs.Work.{AreResolved, AreWorked, lane_of}
use Rattle.rw_fleet.specs.Fleets.{Shards, AreAll}
use Rattle.rw_fleet.specs.declared.joined.StoppedShard.{StoppedShard}
use Rattle.rw_sender.specs.Placement.{joined_epochs}
use Rattle.rw_sender.specs.Reports.{IsAbandoned, parts_of}
use Rattle.rw_sender.specs.Shipping.{Shipping, PlacesAll, HasStopped}
use Rattle.rw_sender.specs.declared.report.Report.{Report}
use Rattle.rw_restarts.specs.Listed.{IsNamedIn, is_left}
use Rattle.rw_restarts.specs.Arrivals.{Arrival, Receives, IsAnsweredBy, AreExchangesOf}
use Rattle.rw_restarts.specs.Runs.{SentMessage, SenderRun, acknowledged_in}
use Rattle.rw_restarts.specs.Receivers.{ReceiverEvent, ReceiverState}
use Rattle.rw_restarts.specs.Refusals.{IsAnyReceiver}
use Rattle.rw_restarts.specs.Logs.{IsRunOverPart}
use Rattle.rw_restarts.specs.Shards.{AreAllDone, IsRunOfEpochs}

-- the place of the first shard of an epoch among the shards of all these epochs
abbrev pub first_of_epoch : List (List ShardHistory) → ℕ → ℕ
first_of_epoch [] e = 0
first_of_epoch (shards ∷ later) zero = 0
first_of_epoch (shards ∷ later) (suc e) = length shards + first_of_epoch later e

-- a run that read a log from its first entry on, and sent these messages
abbrev pub run_from_start : List SentMessage → SenderRun
run_from_start sent = record { earlier = λ l. []; sent = sent }

-- A sample at this position of what was placed, of a label set that the rules keep, which the
-- report neither lists as left nor as dropped.
pub record IsUnlisted {T : Type 0} (s : Shipping T) (r : Report T) (p : ℕ) (x : Point) (l : Labels)
    : Type 0 where
  pub reference : ℕ
  pub placed : slice_get s.log.placed p ≡ Some (Sample reference x.0 x.1)
  pub kept : known s.log.choice (take p s.log.placed) reference ≡ Kept l
  pub not_left : is_left r.outcome p ≡ false
  pub not_dropped : (reason : Reason) → IsNamedIn (parts_of r) p reason → ⊥

-- What a shipper that was stopped added to a receiver: what this one held before, or had
-- acknowledged if it was started again meanwhile, is in its place; each list rises, so that nothing
-- is held twice; and each sample that was placed and is not listed is held.
pub record HasAdded {T : Type 0} (s : Shipping T) (r : Report T) (old new : Store) : Type 0 where
  pub stays : (l : Labels) → Begins (list_of old l) (list_of new l)
  pub in_order : EachRises new
  pub added : (p : ℕ) (x : Point) (l : Labels) → IsUnlisted s r p x l
      → holds x (list_of new l) ≡ true

-- each list has what it had, maybe with more after it, and rises
pub record IsGrown (old new : Store) : Type 0 where
  pub rises : EachRises new
  pub begins : (l : Labels) → Begins (list_of old l) (list_of new l)

-- A receiver of workers with these exchanges, whatever it held at first: the n-th request that came
-- to it, of one of these exchanges, met the n-th of `heads` and left the n-th of `answered`. In
-- between it may be sent anything else, or be started again, if nothing is lost by that
-- (`between`). A status that a worker read is one that it gave to that exchange (`statuses_given`).
pub record IsOpenReceiver (c : Setup) (exchanges : ℕ → ℕ → List Exchange) (arrivals : List Arrival)
    (heads answered : ℕ → State) : Type 0 where
  pub rises : EachRises (heads 0).store
  pub receives : (n : ℕ) (a : Arrival) → slice_get arrivals n ≡ Some a
      → (x : Exchange) × (slice_get (exchanges a.epoch a.shard) a.number ≡ Some x)
      × Receives c a.how x.request (heads n) a.status (answered n)
  pub between : (n : ℕ) → n < length arrivals → IsGrown (answered n).store (heads (suc n)).store
  pub statuses_given : (e k i : ℕ) (x : Exchange) (r : Reply) → slice_get (exchanges e k) i ≡ Some x
      → x.answer ≡ Ok r → IsAnsweredBy arrivals (length arrivals) e k i r.status

module _ {T : Type 0} (tells : T → Type 0) (seen : T → List Exchange) (is_for : ℕ → ℕ → T → Type 0)
  where
    -- the steps that the worker at this place reports
    abbrev pub steps_at : (js : List (StoppedShard T)) → AreWorked tells seen is_for js
        → ℕ → List Step
    steps_at [] worked n = []
    steps_at (j ∷ js) worked zero = worked.0.report.steps
    steps_at (j ∷ js) worked (suc n) = steps_at js worked.1 n

    -- those of the shard numbered k of the epoch numbered e, if these epochs have all shards
    abbrev pub steps_reported : List (List ShardHistory) → (js : List (StoppedShard T))
        → AreWorked tells seen is_for js → ℕ → ℕ → List Step
    steps_reported epochs js worked e k = steps_at js worked (first_of_epoch epochs e + k)

    -- A shipper that was stopped is a run over what it placed, by the steps that its workers report
    -- (`run`), and so over each log that begins with this (`over`). If no work was abandoned, all
    -- workers are done (`done`). Each sample that is not listed was acknowledged.
    pub record IsStoppedRun (s : Shipping T) (r : Report T) (h : HasStopped tells seen is_for s r)
        : Type 0 where
      pub epochs : List (List ShardHistory)
      pub shards : map lane_of h.joined ≡ joined_epochs epochs
      pub run : IsRunOfEpochs s.log.choice s.log.placed epochs
          (steps_reported epochs h.joined h.worked)
      pub done : (IsAbandoned r.outcome → ⊥)
          → AreAllDone 0 epochs (steps_reported epochs h.joined h.worked)
      pub over : (log : List Entry) → Begins s.log.placed log
          → IsRunOverPart s.log.choice log (run_from_start run.sent)
      pub acknowledged : (p : ℕ) (x : Point) (l : Labels) → IsUnlisted s r p x l
          → holds x (acknowledged_in l run.sent) ≡ true

    -- so is each one that left nothing,
    abbrev pub StopsAsSender : Shipping T → Report T → Type 0
    StopsAsSender s r = (h : HasStopped tells seen is_for s r) → (IsAbandoned r.outcome → ⊥)
        → IsStoppedRun s r h

    -- and each one that abandoned work, if the shards of all epochs but the last had resolved all;
    -- `before` is the fleet before the shards of the last epoch were ended
    abbrev pub AbandonsAsSender : Shipping T → Report T → Type 0
    AbandonsAsSender s r = (h : HasStopped tells seen is_for s r) (before : Shards T)
        → PlacesAll s.log before → AreAll before h.joined → AreResolved before.ended
        → IsStoppedRun s r h

    -- Such a run into any receiver, together with any other runs: whatever the receiver held,
    -- refused, and was sent by the others.
    abbrev pub AddsToReceiver : Shipping T → Report T → Type 0
    AddsToReceiver s r = (h : HasStopped tells seen is_for s r) (run : IsStoppedRun s r h)
        (limits : LabelLimits) (runs : List SenderRun) (i : ℕ) (own : SenderRun)
        (events : List ReceiverEvent) (states : ℕ → ReceiverState)
        → slice_get runs i ≡ Some own → own.sent ≡ run.run.sent
        → IsAnyReceiver limits runs events states
        → HasAdded s r (states 0).acknowledged (states (length events)).store

    -- And over the wire: the requests of its workers come to a receiver, in whatever order, each
    -- once, often, late or never.
    abbrev pub AddsOverWire : Shipping T → Report T → Type 0
    AddsOverWire s r = (h : HasStopped tells seen is_for s r) (c : Setup)
        (exchanges : ℕ → ℕ → List Exchange) (arrivals : List Arrival) (heads answered : ℕ → State)
        → c.target ≡ s.fleet.config.target
        → AreExchangesOf tells seen is_for h.joined h.worked exchanges
        → IsOpenReceiver c exchanges arrivals heads answered
        → HasAdded s r (heads 0).store (heads (length arrivals)).store
