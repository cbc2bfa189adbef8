-- The runs of a sender that is started again and again.
use Rattle.std.specs.Prelude.{◌≡◌, ℕ, ◌<◌, List, [], ◌∷◌, ◌++◌, take, Option, Some, None, slice_get}
use Rattle.rw_types.specs.Beginnings.{Begins}
use Rattle.rw_types.specs.Labels.{Labels}
use Rattle.rw_write_request.specs.Message.{WriteRequest}
use Rattle.rw_retry.specs.declared.judgement.Judgement.{Judgement}
use Rattle.rw_retry.specs.declared.judgement.Judgement.TheVariants.{Done, Again, Refused}
use Rattle.rw_head.specs.Order.{Point}
use Rattle.rw_restarts.specs.Parts.{points_in}

-- a message that a sender sent, and how it judged the answer, if it was answered
pub record SentMessage : Type 0 where
  pub message : WriteRequest
  pub judgement : Option Judgement

-- One run of a sender: of each label set the samples that are earlier than the log that it reads,
-- and what it sent, in the order in which it began to. It may have been ended at any point.
pub record SenderRun : Type 0 where
  pub earlier : Labels → List Point
  pub sent : List SentMessage

-- the samples of a label set that an answer acknowledged
abbrev pub acknowledged_by : Labels → WriteRequest → Option Judgement → List Point
acknowledged_by l m None = []
acknowledged_by l m (Some Done) = points_in l m
acknowledged_by l m (Some Again) = []
acknowledged_by l m (Some Refused) = []

-- those that the answers to these messages acknowledged
abbrev pub acknowledged_in : Labels → List SentMessage → List Point
acknowledged_in l [] = []
acknowledged_in l (x ∷ xs) = acknowledged_by l x.message x.judgement ++ acknowledged_in l xs

-- the earlier samples, and those that were acknowledged of the first n messages
abbrev pub acknowledged_before : SenderRun → Labels → ℕ → List Point
acknowledged_before run l n = run.earlier l ++ acknowledged_in l (take n run.sent)

-- none of the first n messages with samples of the label set was refused
abbrev pub NoneRefused : Labels → ℕ → List SentMessage → Type 0
NoneRefused l n sent = (k : ℕ) (y : SentMessage) → k < n → slice_get sent k ≡ Some y
    → y.judgement ≡ Some Refused → points_in l y.message ≡ []

-- A run that sends this list of one label set: each message has what comes next in it after the
-- samples that were acknowledged before. Nothing is asked once a message with the label set was
-- refused.
abbrev pub SendsNext : Labels → List Point → SenderRun → Type 0
SendsNext l whole run = (n : ℕ) (x : SentMessage) → slice_get run.sent n ≡ Some x
    → NoneRefused l n run.sent
    → Begins (acknowledged_before run l n ++ points_in l x.message) whole

-- and so of each label set a list of its own
abbrev pub IsRunOver : (Labels → List Point) → SenderRun → Type 0
IsRunOver whole run = (l : Labels) → SendsNext l (whole l) run

-- all these runs send the same list of the label set
abbrev pub AllSendNext : Labels → List Point → List SenderRun → Type 0
AllSendNext l whole runs =
    (i : ℕ) (run : SenderRun) → slice_get runs i ≡ Some run → SendsNext l whole run

-- all these runs send the same lists
abbrev pub AreRunsOver : (Labels → List Point) → List SenderRun → Type 0
AreRunsOver whole runs = (l : Labels) → AllSendNext l (whole l) runs

-- the n-th message of the i-th run
pub record IsSentBy (runs : List SenderRun) (i n : ℕ) (run : SenderRun) (x : SentMessage) : Type 0
  where
    pub exists : slice_get runs i ≡ Some run
    pub is : slice_get run.sent n ≡ Some x
