-- Runs of a sender, and a receiver of their messages, as lives of one label set.
use Rattle.std.specs.Prelude.{◌≡◌, ℕ, List, [], map, Option, Some, slice_get}
use Rattle.rw_types.specs.Labels.{Labels}
use Rattle.rw_types.specs.declared.entry.Entry.{Entry}
use Rattle.rw_relabel.specs.declared.choice.Choice.{Choice}
use Rattle.rw_shard_core.specs.declared.outcome.Outcome.{Outcome}
use Rattle.rw_shard_core.specs.declared.outcome.Outcome.TheVariants.{Complete}
use Rattle.rw_head.specs.Order.{Point}
use Rattle.rw_head.specs.Store.{list_of}
use Rattle.rw_restarts.specs.Lives.{LifeMessage, SenderLife, Holding, IsHistoryOf}
use Rattle.rw_restarts.specs.Owed.{owed_of}
use Rattle.rw_restarts.specs.Parts.{points_in}
use Rattle.rw_restarts.specs.Receivers.{ReceiverEvent, ReceiverState, HasNoGap}
use Rattle.rw_restarts.specs.Runs.{SenderRun, SentMessage, acknowledged_in, SendsNext}
use Rattle.rw_restarts.specs.Workers.{NeverRefused}

-- a run, the entries that it was fed, and the outcome that it reported, if it was not killed
pub record ReportedRun : Type 0 where
  pub run : SenderRun
  pub fed : List Entry
  pub outcome : Option Outcome

-- a run with what is earlier than its log, which sent these messages
abbrev pub reported : (Labels → List Point) → List SentMessage → List Entry → Option Outcome
    → ReportedRun
reported earlier sent fed outcome = record {
  run = record { earlier = earlier; sent = sent };
  fed = fed;
  outcome = outcome;
}

-- one from the first entry of its log on
abbrev pub reported_from_start : List SentMessage → List Entry → Option Outcome → ReportedRun
reported_from_start sent fed outcome = reported (λ (l : Labels). []) sent fed outcome

abbrev pub sender_run : ReportedRun → SenderRun
sender_run r = r.run

abbrev pub life_message : Labels → SentMessage → LifeMessage
life_message l x = record { samples = points_in l x.message; judgement = x.judgement }

-- what the run is to a label set
abbrev pub life_of : Labels → ReportedRun → SenderLife
life_of l r = record {
  earlier = r.run.earlier l;
  fed = r.fed;
  sent = map (life_message l) r.run.sent;
  outcome = r.outcome;
}

-- what the receiver holds of it
abbrev pub holding_of : Labels → ReceiverState → Holding
holding_of l s = record { held = list_of s.store l; acknowledged = list_of s.acknowledged l }

-- The run sends what the log owes of the label set (`sends`). If it reported `complete`, all that
-- is owed of what it was fed was acknowledged, if no message was refused of it (`complete`).
pub record IsReportedOver (choice : Choice) (log : List Entry) (l : Labels) (r : ReportedRun)
    : Type 0 where
  pub sends : SendsNext l (owed_of choice log l) r.run
  pub complete : (end : ℕ) → r.outcome ≡ Some (Complete end) → NeverRefused l r.run.sent
      → acknowledged_in l r.run.sent ≡ owed_of choice r.fed l

abbrev pub AreReportedOver : Choice → List Entry → Labels → List ReportedRun → Type 0
AreReportedOver choice log l runs = (i : ℕ) (r : ReportedRun) → slice_get runs i ≡ Some r
    → IsReportedOver choice log l r

-- If all runs are so, and the label set has no gap, they and the receiver are a history of lives of
-- this label set.
abbrev pub AreLivesOf : Choice → List Entry → Labels → List ReportedRun → List ReceiverEvent
    → (ℕ → ReceiverState) → Type 0
AreLivesOf choice log l runs events states = AreReportedOver choice log l runs
    → HasNoGap (map sender_run runs) events states l
    → IsHistoryOf choice log l (map (life_of l) runs) events (λ (at : ℕ). holding_of l (states at))
