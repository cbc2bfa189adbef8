-- A run of the command over a log, as a run of a sender that may be started again.
use Rattle.std.specs.Prelude.{◌≡◌, ℕ, ◌<◌, ⊤, Bool, true, false, List, length, take, Option, Some, Result, slice_get}
use Rattle.rw_types.specs.Beginnings.{Begins}
use Rattle.rw_types.specs.Labels.{Labels}
use Rattle.rw_types.specs.declared.entry.Entry.{Entry}
use Rattle.rw_types.specs.declared.entry.Entry.TheVariants.{Sample}
use Rattle.rw_external_labels.specs.External.{labelled}
use Rattle.rw_wal_format.specs.Pieces.{Piece, entries}
use Rattle.rw_series_cache.specs.Known.{Kept, known}
use Rattle.rw_ledger.specs.declared.ledger.Reason.{Reason}
use Rattle.rw_shard_core.specs.Configs.{choice_of}
use Rattle.rw_shard_core.specs.declared.config.ConfigFields.{ConfigFields}
use Rattle.rw_shard_core.specs.declared.outcome.Outcome.{Outcome}
use Rattle.rw_shard_core.specs.declared.outcome.Outcome.TheVariants.{Complete, Abandoned, Damaged}
use Rattle.rw_head.specs.Head.{State}
use Rattle.rw_head.specs.Order.{Point, holds}
use Rattle.rw_head.specs.Store.{Store, list_of}
use Rattle.rw_head.specs.Verdicts.{LabelLimits}
use Rattle.rw_restarts.specs.Owed.{owed_of}
use Rattle.rw_worker.specs.Transcript.{Exchange}
use Rattle.rw_sender.specs.Shipping.{Shipping, HasStopped}
use Rattle.rw_sender.specs.declared.report.Report.{Report}
use Rattle.rw_sender.specs.declared.shipper.LogOptions.{LogOptions}
use Rattle.rw_restarts.specs.Arrivals.{Arrival, AreExchangesOf}
use Rattle.rw_restarts.specs.Listed.{is_left, IsNamedIn}
use Rattle.rw_restarts.specs.Runs.{SenderRun, acknowledged_in}
use Rattle.rw_restarts.specs.Receivers.{HasNoGap, IsReceiverOf, ReceiverEvent, ReceiverState}
use Rattle.rw_restarts.specs.Refusals.{IsAnyReceiver}
use Rattle.rw_restarts.specs.Logs.{AreRunsOverLog, IsRunOverPart}
use Rattle.rw_restarts.specs.Workers.{NeverRefused}
use Rattle.rw_restarts.specs.Stopped.{IsGrown, IsOpenReceiver, IsStoppedRun, run_from_start}
use Rattle.rw_follow.specs.declared.signal.StopRequest.{StopRequest}
use Rattle.rw_send.specs.declared.follow_fault.FollowFault.{FollowFault}
use Rattle.rw_send.specs.Logs.{Seen}
use Rattle.rw_send.specs.Sending.{IsSent}
use Rattle.rw_sender.specs.Reports.{parts_of}
use Rattle.rw_sent_held.specs.Held.{machine_of}

-- ---- one run of a sender

-- the entries of a log that is read so
abbrev pub entries_as : LogOptions → List Piece → List Entry
entries_as reading pieces = labelled reading.labels (entries pieces)

-- What a shipper with this configuration sent that was fed these entries: one run, by the steps
-- that its workers report (`run`), over each log that begins with what was fed (`over`). If the
-- outcome is complete, all that is owed of a label set was acknowledged, if no message was refused
-- of it (`complete`). So whatever other runs one receiver was sent messages of, which began empty,
-- it holds all that is owed of a label set of what was fed, if all runs send what one log owes of
-- it, and there is no gap in it (`held`).
pub record IsRunOverFed {T : Type 0} (tells : T → Type 0) (seen : T → List Exchange)
    (is_for : ℕ → ℕ → T → Type 0) (c : ConfigFields) (fed : List Entry) (s : Shipping T)
    (r : Report T) (stopped : HasStopped tells seen is_for s r) : Type 0 where
  pub run : IsStoppedRun tells seen is_for s r stopped
  pub over : (log : List Entry) → Begins fed log
      → IsRunOverPart (choice_of c) log (run_from_start run.run.sent)
  pub complete : (end : ℕ) → r.outcome ≡ Complete end → (l : Labels)
      → NeverRefused l run.run.sent
      → acknowledged_in l run.run.sent ≡ owed_of (choice_of c) fed l
  pub held : (end : ℕ) → r.outcome ≡ Complete end → (limits : LabelLimits) (log : List Entry)
      (runs : List SenderRun) (i : ℕ) (events : List ReceiverEvent) (states : ℕ → ReceiverState)
      (l : Labels) → slice_get runs i ≡ Some (run_from_start run.run.sent)
      → AreRunsOverLog (choice_of c) log runs l → IsReceiverOf limits runs events states
      → HasNoGap runs events states l
      → Begins (owed_of (choice_of c) fed l)
      (list_of (states (length events)).store l)

abbrev pub SentIsRun : {T : Type 0} → (T → Type 0) → (T → List Exchange) → (ℕ → ℕ → T → Type 0)
    → ConfigFields → Option ℕ → Seen → Bool → StopRequest → Report T
    → Result (Unit {0}) FollowFault → Type 0
SentIsRun tells seen is_for c limit log quiet said r answer =
    (reading : LogOptions) (sent : IsSent tells seen is_for c limit reading log quiet said r answer)
    → IsRunOverFed tells seen is_for c (entries_as reading sent.pieces) sent.report.shipping r sent.report.stopped

-- ---- what it adds to a receiver

-- the outcome says that this position was placed, and does not list it as left
abbrev pub IsSettledBy : Outcome → ℕ → Type 0
IsSettledBy (Complete end) p = ⊤
IsSettledBy (Abandoned placed samples) p =
    (p < placed) × (is_left (Abandoned placed samples) p ≡ false)
IsSettledBy (Damaged f) p = ⊤

-- A sample at this position of what was fed, of a label set that the rules keep, which the report
-- says was placed, and lists neither as left nor as dropped.
pub record IsFedUnlisted {T : Type 0} (c : ConfigFields) (fed : List Entry) (r : Report T)
    (p : ℕ) (x : Point) (l : Labels) : Type 0 where
  pub reference : ℕ
  pub at : slice_get fed p ≡ Some (Sample reference x.0 x.1)
  pub kept : known (choice_of c) (take p fed) reference ≡ Kept l
  pub settled : IsSettledBy r.outcome p
  pub not_dropped : (reason : Reason) → IsNamedIn (parts_of r) p reason → ⊥

-- what a receiver held is in its place, each list rises, and each such sample is held
pub record HasAddedFed {T : Type 0} (c : ConfigFields) (fed : List Entry) (r : Report T)
    (old new : Store) : Type 0 where
  pub grown : IsGrown old new
  pub added : (p : ℕ) (x : Point) (l : Labels) → IsFedUnlisted c fed r p x l
      → holds x (list_of new l) ≡ true

-- This is so of a receiver that may be started again meanwhile, and be sent the messages of other
-- runs, of what it had acknowledged (`events`). And it is so of a receiver to which the requests of
-- the workers come over the wire, in whatever order, each once, often, late or never (`received`).
pub record AddsFed {T : Type 0} (tells : T → Type 0) (seen : T → List Exchange)
    (is_for : ℕ → ℕ → T → Type 0) (c : ConfigFields) (fed : List Entry) (s : Shipping T)
    (r : Report T) (stopped : HasStopped tells seen is_for s r) : Type 0 where
  pub events : (run : IsStoppedRun tells seen is_for s r stopped) (limits : LabelLimits)
      (runs : List SenderRun) (i : ℕ) (own : SenderRun) (happened : List ReceiverEvent)
      (states : ℕ → ReceiverState)
      → slice_get runs i ≡ Some own → own.sent ≡ run.run.sent
      → IsAnyReceiver limits runs happened states
      → HasAddedFed c fed r (states 0).acknowledged (states (length happened)).store
  pub received : (limits : LabelLimits) (max_body busy : ℕ) (exchanges : ℕ → ℕ → List Exchange)
      (arrivals : List Arrival) (heads answered : ℕ → State)
      → AreExchangesOf tells seen is_for stopped.joined stopped.worked exchanges
      → IsOpenReceiver (machine_of c limits max_body busy) exchanges arrivals heads answered
      → HasAddedFed c fed r (heads 0).store (heads (length arrivals)).store

abbrev pub SentAdds : {T : Type 0} → (T → Type 0) → (T → List Exchange) → (ℕ → ℕ → T → Type 0)
    → ConfigFields → Option ℕ → Seen → Bool → StopRequest → Report T
    → Result (Unit {0}) FollowFault → Type 0
SentAdds tells seen is_for c limit log quiet said r answer =
    (reading : LogOptions) (sent : IsSent tells seen is_for c limit reading log quiet said r answer)
    → AddsFed tells seen is_for c (entries_as reading sent.pieces) sent.report.shipping r sent.report.stopped
