-- Runs of a sender over one log, which is read whole or from a checkpoint on.
use Rattle.std.specs.Prelude.{◌≡◌, ℕ, ℤ, List, ◌++◌, take, Some, slice_get}
use Rattle.rw_types.specs.Beginnings.{Begins}
use Rattle.rw_types.specs.Rising.{Rises}
use Rattle.rw_types.specs.Labels.{Labels}
use Rattle.rw_types.specs.declared.entry.Entry.{Entry}
use Rattle.rw_relabel.specs.declared.choice.Choice.{Choice}
use Rattle.rw_head.specs.Lists.{IsEarlier}
use Rattle.rw_head.specs.Order.{Point}
use Rattle.rw_head.specs.Store.{list_of}
use Rattle.rw_restarts.specs.Checkpoints.{IsCheckpointFor, IsInTime}
use Rattle.rw_restarts.specs.Owed.{owed_of}
use Rattle.rw_restarts.specs.Parts.{points_in}
use Rattle.rw_restarts.specs.Runs.{SenderRun, SentMessage, acknowledged_in, NoneRefused, SendsNext, AllSendNext}
use Rattle.rw_restarts.specs.Receivers.{ReceiverState, HoldsPrefix}

-- Messages of a sender of these entries: each has of each label set what the entries owe next after
-- the samples that were acknowledged before.
abbrev pub SendsOwed : Choice → List Entry → List SentMessage → Type 0
SendsOwed choice entries sent = (n : ℕ) (x : SentMessage) (l : Labels) → slice_get sent n ≡ Some x
    → NoneRefused l n sent
    → Begins (acknowledged_in l (take n sent) ++ points_in l x.message) (owed_of choice entries l)

-- A run that read a part of the log: what this part owes comes after `earlier` in what the log
-- owes. So it is of the first entries, with nothing earlier, and of entries from a checkpoint on.
pub record IsRunOverPart (choice : Choice) (log : List Entry) (run : SenderRun) : Type 0 where
  pub read : List Entry
  pub part : (l : Labels) → Begins (run.earlier l ++ owed_of choice read l) (owed_of choice log l)
  pub sends : SendsOwed choice read run.sent

-- What was sent of a log from a checkpoint on, as a run over the whole log: of each label set of
-- which the checkpoint has all from a time on, before which nothing comes later. What was read owes
-- of it what comes in the whole log after the samples `earlier` (`whole`).
pub record IsRunFromCheckpoint (choice : Choice) (full cp later more : List Entry)
    (sent : List SentMessage) : Type 0 where
  pub earlier : Labels → List Point
  pub whole : (floor : ℤ) (l : Labels) → IsCheckpointFor floor l full cp later
      → IsInTime floor l full later
      → earlier l ++ owed_of choice (cp ++ later) l ≡ owed_of choice (full ++ later) l
  pub sends : (floor : ℤ) (l : Labels) → IsCheckpointFor floor l full cp later
      → IsInTime floor l full later
      → SendsNext l (owed_of choice ((full ++ later) ++ more) l)
      (record { earlier = earlier; sent = sent })

-- The list of the label set rises, and is a prefix of what the log owes. If all that some entries
-- owe was acknowledged in a run, all of it is held, after what is earlier than the log of that run.
pub record HoldsLog (choice : Choice) (log : List Entry) (runs : List SenderRun)
    (held : ReceiverState) (l : Labels) : Type 0 where
  pub rises : Rises IsEarlier (list_of held.store l)
  pub prefix : HoldsPrefix (owed_of choice log l) runs held l
  pub complete : (i : ℕ) (run : SenderRun) (entries : List Entry)
      → slice_get runs i ≡ Some run → Begins (run.earlier l) (list_of held.acknowledged l)
      → acknowledged_in l run.sent ≡ owed_of choice entries l
      → Begins (run.earlier l ++ owed_of choice entries l) (list_of held.store l)

-- all these runs send what the log owes of the label set
abbrev pub AreRunsOverLog : Choice → List Entry → List SenderRun → Labels → Type 0
AreRunsOverLog choice log runs l = AllSendNext l (owed_of choice log l) runs
