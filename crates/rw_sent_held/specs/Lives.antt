-- A run of the command with a report, as a life of a sender.
use Rattle.std.specs.Prelude.{◌≡◌, ℕ, ℤ, Bool, List, ◌++◌, Option, Some, Result}
use Rattle.rw_types.specs.Beginnings.{Begins}
use Rattle.rw_types.specs.Labels.{Labels}
use Rattle.rw_types.specs.declared.entry.Entry.{Entry}
use Rattle.rw_shard_core.specs.Configs.{choice_of}
use Rattle.rw_shard_core.specs.declared.config.ConfigFields.{ConfigFields}
use Rattle.rw_worker.specs.Transcript.{Exchange}
use Rattle.rw_sender.specs.Shipping.{Shipping, HasStopped}
use Rattle.rw_sender.specs.declared.report.Report.{Report}
use Rattle.rw_sender.specs.declared.shipper.LogOptions.{LogOptions}
use Rattle.rw_restarts.specs.Checkpoints.{IsCheckpointFor, IsInTime}
use Rattle.rw_restarts.specs.Logs.{IsRunFromCheckpoint}
use Rattle.rw_restarts.specs.RunLives.{IsReportedOver, reported, reported_from_start}
use Rattle.rw_restarts.specs.Stopped.{IsStoppedRun}
use Rattle.rw_follow.specs.declared.signal.StopRequest.{StopRequest}
use Rattle.rw_send.specs.declared.follow_fault.FollowFault.{FollowFault}
use Rattle.rw_send.specs.Logs.{Seen}
use Rattle.rw_send.specs.Sending.{IsSent}
use Rattle.rw_sent_held.specs.Restarts.{entries_as}

-- What a shipper with this configuration sent that was fed these entries, with the outcome that it
-- reported, is a life of each label set over each log that begins with what was fed (`life`). If it
-- was fed a checkpoint and what comes later, it is one over the whole log, of each label set of
-- which the checkpoint has what it should (`checkpoint`).
pub record HasLifeOverFed {T : Type 0} (tells : T → Type 0) (seen : T → List Exchange)
    (is_for : ℕ → ℕ → T → Type 0) (c : ConfigFields) (fed : List Entry) (s : Shipping T)
    (r : Report T) (stopped : HasStopped tells seen is_for s r) : Type 0 where
  pub run : IsStoppedRun tells seen is_for s r stopped
  pub life : (log : List Entry) (l : Labels) → Begins fed log
      → IsReportedOver (choice_of c) log l
      (reported_from_start run.run.sent fed (Some r.outcome))
  pub checkpoint : (full cp later more : List Entry) → fed ≡ cp ++ later
      → (from : IsRunFromCheckpoint (choice_of c) full cp later more run.run.sent)
      × ((floor : ℤ) (l : Labels) → IsCheckpointFor floor l full cp later
      → IsInTime floor l full later
      → IsReportedOver (choice_of c) ((full ++ later) ++ more) l
      (reported from.earlier run.run.sent fed (Some r.outcome)))

abbrev pub SentHasLife : {T : Type 0} → (T → Type 0) → (T → List Exchange) → (ℕ → ℕ → T → Type 0)
    → ConfigFields → Option ℕ → Seen → Bool → StopRequest → Report T
    → Result (Unit {0}) FollowFault → Type 0
SentHasLife tells seen is_for c limit log quiet said r answer =
    (reading : LogOptions) (sent : IsSent tells seen is_for c limit reading log quiet said r answer)
    → HasLifeOverFed tells seen is_for c (entries_as reading sent.pieces) sent.report.shipping r sent.report.stopped
