-- The lives of a sender and of its receiver, of one label set.
use Rattle.std.specs.Prelude.{◌≡◌, ◌≢◌, ℕ, suc, ◌<◌, List, [], ◌∷◌, ◌++◌, length, take, Option, None, Some, slice_get}
use Rattle.rw_types.specs.Beginnings.{Begins}
use Rattle.rw_types.specs.Labels.{Labels}
use Rattle.rw_types.specs.declared.entry.Entry.{Entry}
use Rattle.rw_relabel.specs.declared.choice.Choice.{Choice}
use Rattle.rw_retry.specs.declared.judgement.Judgement.{Judgement}
use Rattle.rw_retry.specs.declared.judgement.Judgement.TheVariants.{Done, Again, Refused}
use Rattle.rw_shard_core.specs.declared.outcome.Outcome.{Outcome}
use Rattle.rw_shard_core.specs.declared.outcome.Outcome.TheVariants.{Complete}
use Rattle.rw_head.specs.Order.{Point, accept}
use Rattle.rw_restarts.specs.Owed.{owed_of}
use Rattle.rw_restarts.specs.Receivers.{ReceiverEvent, Answers, Restarts, RestartsDuring, Brings, IsAnsweredAmong}

-- ---- a sender
-- a message that a sender sent: the samples that it has of the label set, and how the sender judged
-- the answer, if it got one
pub record LifeMessage : Type 0 where
  pub samples : List Point
  pub judgement : Option Judgement

-- One life of a sender: the samples of the label set that are earlier than what it read, the
-- entries that it was fed, what it sent, in the order in which it began to, and the outcome that it
-- reported. One that was killed, at any point, reported none.
pub record SenderLife : Type 0 where
  pub earlier : List Point
  pub fed : List Entry
  pub sent : List LifeMessage
  pub outcome : Option Outcome

-- the samples that an answer acknowledged
abbrev pub if_done : Option Judgement → List Point → List Point
if_done None samples = []
if_done (Some Done) samples = samples
if_done (Some Again) samples = []
if_done (Some Refused) samples = []

-- those that the answers to these messages acknowledged
abbrev pub all_done : List LifeMessage → List Point
all_done [] = []
all_done (x ∷ xs) = if_done x.judgement x.samples ++ all_done xs

-- none of the first n messages that have samples was refused
abbrev pub NoneIsRefused : ℕ → List LifeMessage → Type 0
NoneIsRefused n sent = (k : ℕ) (y : LifeMessage) → k < n → slice_get sent k ≡ Some y
    → y.judgement ≡ Some Refused → y.samples ≡ []

-- Each message has what the log owes next, after the samples that are earlier and those that were
-- acknowledged before (`sends`). If the life reported `complete`, all that is owed of what it was
-- fed was acknowledged (`complete`). Nothing is asked once a message was refused.
pub record IsLifeOver (choice : Choice) (log : List Entry) (l : Labels) (life : SenderLife) : Type 0
  where
    pub sends : (n : ℕ) (x : LifeMessage) → slice_get life.sent n ≡ Some x
        → NoneIsRefused n life.sent
        → Begins ((life.earlier ++ all_done (take n life.sent)) ++ x.samples) (owed_of choice log l)
    pub complete : (end : ℕ) → life.outcome ≡ Some (Complete end)
        → NoneIsRefused (length life.sent) life.sent
        → all_done life.sent ≡ owed_of choice life.fed l

-- the n-th message of the i-th life
pub record IsMessageOf (lives : List SenderLife) (i n : ℕ) (life : SenderLife) (x : LifeMessage)
    : Type 0 where
  pub lived : slice_get lives i ≡ Some life
  pub is : slice_get life.sent n ≡ Some x

-- ---- a receiver
-- what a receiver holds of the label set, and what it held when it last acknowledged a message
pub record Holding : Type 0 where
  pub held : List Point
  pub acknowledged : List Point

-- The next life of a receiver begins with at least what was acknowledged, and at most what the last
-- one held or was about to hold. If the last one ended in order, that is all that it held.
pub record LivesAgain (old : Holding) (most : List Point) (new : Holding) : Type 0 where
  pub same : new.acknowledged ≡ old.acknowledged
  pub least : Begins old.acknowledged new.held
  pub at_most : Begins new.held most

-- The event leads from one state to the next one: a message that is acknowledged was taken, and any
-- other answer changes nothing; and a life ends, or is ended while it takes a message.
abbrev pub Follows : List SenderLife → ReceiverEvent → Holding → Holding → Type 0
Follows lives (Answers i n Done) old new = (life : SenderLife) × (x : LifeMessage)
    × IsMessageOf lives i n life x × (accept (Some old.held) x.samples ≡ Some new.held)
    × (new.acknowledged ≡ new.held)
Follows lives (Answers i n Again) old new = new ≡ old
Follows lives (Answers i n Refused) old new = new ≡ old
Follows lives Restarts old new = LivesAgain old old.held new
Follows lives (RestartsDuring i n) old new = (life : SenderLife) × (x : LifeMessage)
    × (most : List Point) × IsMessageOf lives i n life x
    × (accept (Some old.held) x.samples ≡ Some most) × LivesAgain old most new

-- ---- the premises
-- Lives of a sender of one log (`over`), and one receiver, which began empty (`begins`) and is sent
-- these messages, each once, often, late or never (`happens`). An answer that a sender got it gave
-- (`given`), before a later message of that life came (`before`). It refused none (`unrefused`).
-- When a message comes, the samples that are earlier than what its life read are acknowledged
-- (`covered`).
pub record IsHistoryOf (choice : Choice) (log : List Entry) (l : Labels) (lives : List SenderLife)
    (events : List ReceiverEvent) (states : ℕ → Holding) : Type 0 where
  pub over : (i : ℕ) (life : SenderLife) → slice_get lives i ≡ Some life
      → IsLifeOver choice log l life
  pub begins : ((states 0).held ≡ []) × ((states 0).acknowledged ≡ [])
  pub happens : (at : ℕ) (event : ReceiverEvent) → slice_get events at ≡ Some event
      → Follows lives event (states at) (states (suc at))
  pub given : (i n : ℕ) (life : SenderLife) (x : LifeMessage) (judgement : Judgement)
      → IsMessageOf lives i n life x → x.judgement ≡ Some judgement → x.samples ≢ []
      → IsAnsweredAmong events (length events) i n judgement
  pub before : (at : ℕ) (event : ReceiverEvent) (i k n : ℕ) (life : SenderLife)
      (y x : LifeMessage) (judgement : Judgement) → slice_get events at ≡ Some event
      → Brings event i n → IsMessageOf lives i n life x → IsMessageOf lives i k life y → k < n
      → y.judgement ≡ Some judgement → y.samples ≢ [] → x.samples ≢ []
      → IsAnsweredAmong events at i k judgement
  pub unrefused : (at i n : ℕ) (life : SenderLife) (x : LifeMessage)
      → slice_get events at ≡ Some (Answers i n Refused) → IsMessageOf lives i n life x
      → x.samples ≡ []
  pub covered : (at : ℕ) (event : ReceiverEvent) (i n : ℕ) (life : SenderLife) (x : LifeMessage)
      → slice_get events at ≡ Some event → Brings event i n → IsMessageOf lives i n life x
      → x.samples ≢ [] → Begins life.earlier (states at).acknowledged
