-- A run of the command with a report is a life of a sender.
use Rattle.std.proofs.Common.{◌≡◌, ℕ, ℤ, List, [], ◌++◌, append-nil, Option, Some, sym, ◌∙◌, subst}
use Rattle.std.proofs.lemmas.Option.{same_Some}
use Rattle.rw_types.specs.Beginnings.{Begins}
use Rattle.rw_types.specs.Labels.{Labels}
use Rattle.rw_types.specs.declared.entry.Entry.{Entry}
use Rattle.rw_relabel.specs.declared.choice.Choice.{Choice}
use Rattle.rw_shard_core.specs.Configs.{choice_of}
use Rattle.rw_shard_core.specs.declared.config.ConfigFields.{ConfigFields}
use Rattle.rw_shard_core.specs.declared.outcome.Outcome.{Outcome}
use Rattle.rw_shard_core.specs.declared.outcome.Outcome.TheVariants.{Complete}
use Rattle.rw_worker.specs.Transcript.{Exchange}
use Rattle.rw_sender.specs.Shipping.{Shipping, HasStopped}
use Rattle.rw_sender.specs.declared.report.Report.{Report}
use Rattle.rw_restarts.specs.Checkpoints.{IsCheckpointFor, IsInTime}
use Rattle.rw_restarts.specs.Logs.{IsRunFromCheckpoint, IsRunOverPart}
use Rattle.rw_restarts.specs.Owed.{owed_of}
use Rattle.rw_restarts.specs.RunLives.{IsReportedOver, reported, reported_from_start}
use Rattle.rw_restarts.specs.Runs.{SenderRun, SentMessage, IsRunOver}
use Rattle.rw_restarts.specs.Stopped.{run_from_start}
use Rattle.rw_sent_held.specs.Lives.{HasLifeOverFed}
use Rattle.rw_sent_held.specs.Restarts.{IsRunOverFed}

abbrev pub PartIsRun : Type 0
PartIsRun = (choice : Choice) (log : List Entry) (run : SenderRun) → IsRunOverPart choice log run → IsRunOver (owed_of choice log) run

abbrev pub CheckpointIsRun : Type 0
CheckpointIsRun = (choice : Choice) (full cp later more : List Entry) (sent : List SentMessage) → IsRunOverPart choice (cp ++ later) (run_from_start sent) → IsRunFromCheckpoint choice full cp later more sent

abbrev pub CheckpointHasLife : Type 0
CheckpointHasLife = (choice : Choice) (full cp later more : List Entry) (sent : List SentMessage) (outcome : Option Outcome) (floor : ℤ) (l : Labels) (run : IsRunFromCheckpoint choice full cp later more sent)
    → IsReportedOver choice (cp ++ later) l (reported_from_start sent (cp ++ later) outcome) → IsCheckpointFor floor l full cp later → IsInTime floor l full later
    → IsReportedOver choice ((full ++ later) ++ more) l (reported run.earlier sent (cp ++ later) outcome)

module _ {T : Type 0} (tells : T → Type 0) (seen : T → List Exchange) (is_for : ℕ → ℕ → T → Type 0) (c : ConfigFields) (fed : List Entry) (s : Shipping T) (r : Report T) (stopped : HasStopped tells seen is_for s r)
    (part : PartIsRun) (checkpoint_run : CheckpointIsRun) (checkpoint_life : CheckpointHasLife) (f : IsRunOverFed tells seen is_for c fed s r stopped) where
  abbrev sent : List SentMessage
  sent = f.run.run.sent

  own-life : (log : List Entry) (l : Labels) → Begins fed log → IsReportedOver (choice_of c) log l (reported_from_start sent fed (Some r.outcome))
  own-life log l begins = record {
    sends = part (choice_of c) log (run_from_start sent) (f.over log begins) l;
    complete = λ end is. f.complete end (same_Some r.outcome (Complete end) is) l;
  }

  module _ (full cp later more : List Entry) (same : fed ≡ cp ++ later) where
    begins-it : Begins fed (cp ++ later)
    begins-it = ([], sym same ∙ sym (append-nil fed))

    from : IsRunFromCheckpoint (choice_of c) full cp later more sent
    from = checkpoint_run (choice_of c) full cp later more sent (f.over (cp ++ later) begins-it)

    over-whole : (floor : ℤ) (l : Labels) → IsCheckpointFor floor l full cp later → IsInTime floor l full later → IsReportedOver (choice_of c) ((full ++ later) ++ more) l (reported from.earlier sent fed (Some r.outcome))
    over-whole floor l kept in_time =
        subst (λ es. IsReportedOver (choice_of c) ((full ++ later) ++ more) l (reported from.earlier sent es (Some r.outcome))) (sym same)
        (checkpoint_life (choice_of c) full cp later more sent (Some r.outcome) floor l from
        (subst (λ es. IsReportedOver (choice_of c) (cp ++ later) l (reported_from_start sent es (Some r.outcome))) same (own-life (cp ++ later) l begins-it)) kept in_time)

  pub has-life : HasLifeOverFed tells seen is_for c fed s r stopped
  has-life = record {
    run = f.run;
    life = own-life;
    checkpoint = λ full cp later more same. (from full cp later more same, over-whole full cp later more same);
  }
