-- One receiver of several senders, each of a log of its own.
use Rattle.std.specs.Prelude.{◌≡◌, ◌≢◌, ◌⊎◌, ℕ, List, [], Some, slice_get}
use Rattle.rw_types.specs.Labels.{Labels}
use Rattle.rw_types.specs.declared.entry.Entry.{Entry}
use Rattle.rw_relabel.specs.declared.choice.Choice.{Choice}
use Rattle.rw_head.specs.Order.{Point}
use Rattle.rw_restarts.specs.Owed.{owed_of}
use Rattle.rw_restarts.specs.Runs.{SenderRun, SendsNext}

-- a sender: its rules, and the log that it reads
pub record LogSender : Type 0 where
  pub choice : Choice
  pub log : List Entry

-- what a sender owes a receiver of a label set
abbrev pub owed_by : LogSender → Labels → List Point
owed_by sender l = owed_of sender.choice sender.log l

-- The i-th run is one of the sender numbered `sender_of i`: it sends what the log of this one owes
-- of the label set.
abbrev pub AreRunsOfSenders : (ℕ → LogSender) → (ℕ → ℕ) → List SenderRun → Labels → Type 0
AreRunsOfSenders senders sender_of runs l = (i : ℕ) (run : SenderRun) → slice_get runs i ≡ Some run
    → SendsNext l (owed_by (senders (sender_of i)) l) run

-- the label set is one of this sender alone: no other one owes samples of it
abbrev pub IsOfOneSender : (ℕ → LogSender) → ℕ → Labels → Type 0
IsOfOneSender senders s l = (other : ℕ) → other ≢ s → owed_by (senders other) l ≡ []

-- no two senders owe samples of one label set
abbrev pub AreSendersApart : (ℕ → LogSender) → Type 0
AreSendersApart senders = (a b : ℕ) (l : Labels) → a ≢ b
    → (owed_by (senders a) l ≡ []) ⊎ (owed_by (senders b) l ≡ [])
