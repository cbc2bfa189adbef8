-- A receiver that is started again and again, and what it is sent by many runs of a sender.
use Rattle.std.specs.Prelude.{◌≡◌, ◌≢◌, ◌⊎◌, ℕ, suc, ◌<◌, Bool, true, List, [], ◌++◌, length, Some, Ok, Err, slice_get}
use Rattle.std.specs.FinMap.{empty}
use Rattle.rw_types.specs.Beginnings.{Begins}
use Rattle.rw_types.specs.Labels.{Labels}
use Rattle.rw_write_request.specs.Message.{WriteRequest}
use Rattle.rw_retry.specs.declared.judgement.Judgement.{Judgement}
use Rattle.rw_retry.specs.declared.judgement.Judgement.TheVariants.{Done, Again, Refused}
use Rattle.rw_head.specs.declared.verdict.Verdict.{Verdict}
use Rattle.rw_head.specs.Order.{Point}
use Rattle.rw_head.specs.Store.{Store, list_of}
use Rattle.rw_head.specs.Verdicts.{LabelLimits, taken_all}
use Rattle.rw_restarts.specs.Parts.{points_in, AreWithinLimits}
use Rattle.rw_restarts.specs.Runs.{SentMessage, SenderRun, IsSentBy, acknowledged_in, acknowledged_before}

-- What happens to a receiver: it answers a message, which is named by its run and its number; it is
-- started again; or it is started again while it works on a message.
pub data ReceiverEvent : Type 0 where
  Answers : (run number : ℕ) → (judgement : Judgement) → ReceiverEvent
  Restarts : ReceiverEvent
  RestartsDuring : (run number : ℕ) → ReceiverEvent

-- what a receiver holds, and what it held when it last acknowledged a message
pub record ReceiverState : Type 0 where
  pub store : Store
  pub acknowledged : Store

abbrev pub state_of : Store → Store → ReceiverState
state_of store acknowledged = record { store = store; acknowledged = acknowledged }

abbrev pub empty_receiver : ReceiverState
empty_receiver = state_of empty empty

-- it holds no sample, and has acknowledged none
abbrev pub HoldsNothing : ReceiverState → Type 0
HoldsNothing s = (l : Labels) → (list_of s.store l ≡ []) × (list_of s.acknowledged l ≡ [])

-- It answers as a head does: it acknowledges a message that it takes whole, and refuses one that it
-- cannot take. Else it may ask for the message again.
abbrev pub AnswersAs : LabelLimits → WriteRequest → Judgement → ReceiverState → ReceiverState → Type 0
AnswersAs limits m Done old new =
    (taken_all limits (Ok old.store) m ≡ Ok new.store) × (new.acknowledged ≡ new.store)
AnswersAs limits m Again old new = new ≡ old
AnswersAs limits m Refused old new =
    (new ≡ old) × ((v : Verdict) × (taken_all limits (Ok old.store) m ≡ Err v))

-- It was started again: each list has at least what was acknowledged, and at most what it was about
-- to hold.
pub record IsRestarted (old : ReceiverState) (most : Store) (new : ReceiverState) : Type 0 where
  pub same : new.acknowledged ≡ old.acknowledged
  pub least : (l : Labels) → Begins (list_of old.acknowledged l) (list_of new.store l)
  pub at_most : (l : Labels) → Begins (list_of new.store l) (list_of most l)

-- It answers as a head does; or it refuses a message that it did not look at, as one that is too
-- long.
abbrev pub AnswersOrRefuses : LabelLimits → WriteRequest → Judgement → ReceiverState → ReceiverState
    → Type 0
AnswersOrRefuses limits m judgement old new =
    AnswersAs limits m judgement old new ⊎ ((judgement ≡ Refused) × (new ≡ old))

-- it answered the n-th message of the i-th run
pub record HasAnsweredMessage (limits : LabelLimits) (runs : List SenderRun) (i n : ℕ)
    (judgement : Judgement) (old new : ReceiverState) : Type 0 where
  pub run : SenderRun
  pub x : SentMessage
  pub is : IsSentBy runs i n run x
  pub judged : AnswersOrRefuses limits x.message judgement old new

-- it was started again while it was about to take that message
pub record HasRestartedDuring (limits : LabelLimits) (runs : List SenderRun) (i n : ℕ)
    (old new : ReceiverState) : Type 0 where
  pub run : SenderRun
  pub x : SentMessage
  pub is : IsSentBy runs i n run x
  pub most : Store
  pub judged : taken_all limits (Ok old.store) x.message ≡ Ok most
  pub restarted : IsRestarted old most new

-- the event leads from one state of the receiver to the next one
abbrev pub Happens : LabelLimits → List SenderRun → ReceiverEvent → ReceiverState → ReceiverState
    → Type 0
Happens limits runs (Answers i n judgement) old new = HasAnsweredMessage limits runs i n judgement old new
Happens limits runs Restarts old new = IsRestarted old old.store new
Happens limits runs (RestartsDuring i n) old new = HasRestartedDuring limits runs i n old new

-- the message comes in this event
abbrev pub Brings : ReceiverEvent → ℕ → ℕ → Type 0
Brings (Answers j k judgement) i n = (j ≡ i) × (k ≡ n)
Brings Restarts i n = ⊥
Brings (RestartsDuring j k) i n = (j ≡ i) × (k ≡ n)

-- among the first events the receiver answered the message so
pub record IsAnsweredAmong (events : List ReceiverEvent) (first i n : ℕ) (judgement : Judgement)
    : Type 0 where
  pub at : ℕ
  pub early : at < first
  pub is : slice_get events at ≡ Some (Answers i n judgement)

-- The premises on the network: an answer that a sender got the receiver gave (`all`), and it gave
-- it before a later message of that run with samples of the same label set came (`before`).
pub record AreRealAnswers (runs : List SenderRun) (events : List ReceiverEvent) : Type 0 where
  pub all : (i n : ℕ) (run : SenderRun) (x : SentMessage) (judgement : Judgement)
      → IsSentBy runs i n run x → x.judgement ≡ Some judgement
      → IsAnsweredAmong events (length events) i n judgement
  pub before : (at : ℕ) (event : ReceiverEvent) (i k n : ℕ) (run : SenderRun) (y x : SentMessage)
      (judgement : Judgement) (l : Labels) → slice_get events at ≡ Some event → Brings event i n
      → IsSentBy runs i n run x → IsSentBy runs i k run y → k < n → y.judgement ≡ Some judgement
      → points_in l y.message ≢ [] → points_in l x.message ≢ []
      → IsAnsweredAmong events at i k judgement

-- One receiver, which began empty. It is sent the messages of these runs, each once, often, late or
-- never, and is started again any number of times.
pub record IsReceiverOf (limits : LabelLimits) (runs : List SenderRun) (events : List ReceiverEvent)
    (states : ℕ → ReceiverState) : Type 0 where
  pub begins : HoldsNothing (states 0)
  pub happens : (at : ℕ) (event : ReceiverEvent) → slice_get events at ≡ Some event
      → Happens limits runs event (states at) (states (suc at))
  pub answers : AreRealAnswers runs events

-- ---- what the laws ask of a label set
-- no message with samples of it was refused
abbrev pub IsUnrefused : List SenderRun → List ReceiverEvent → Labels → Type 0
IsUnrefused runs events l = (at i n : ℕ) (run : SenderRun) (x : SentMessage)
    → slice_get events at ≡ Some (Answers i n Refused) → IsSentBy runs i n run x
    → points_in l x.message ≡ []

-- when a message of a run comes that has samples of it, all its samples that are earlier than the
-- log of this run are acknowledged
abbrev pub IsCovered : List SenderRun → List ReceiverEvent → (ℕ → ReceiverState) → Labels → Type 0
IsCovered runs events states l = (at : ℕ) (event : ReceiverEvent) (i n : ℕ) (run : SenderRun)
    (x : SentMessage) → slice_get events at ≡ Some event → Brings event i n
    → IsSentBy runs i n run x → points_in l x.message ≢ []
    → Begins (run.earlier l) (list_of (states at).acknowledged l)

-- So nothing of it can be missing between what is held and what comes next.
pub record HasNoGap (runs : List SenderRun) (events : List ReceiverEvent)
    (states : ℕ → ReceiverState) (l : Labels) : Type 0 where
  pub unrefused : IsUnrefused runs events l
  pub covered : IsCovered runs events states l

-- Of the label set the receiver holds a prefix of the whole list (`in_order`). It holds each
-- message that was acknowledged, with all that comes before it (`taken`). All that was acknowledged
-- in a run is held after what is earlier than its log, if that was acknowledged (`complete`); and
-- it was, if anything was acknowledged in the run (`based`).
pub record HoldsPrefix (whole : List Point) (runs : List SenderRun) (held : ReceiverState)
    (l : Labels) : Type 0 where
  pub in_order : Begins (list_of held.store l) whole
  pub taken : (i n : ℕ) (run : SenderRun) (x : SentMessage) → IsSentBy runs i n run x
      → x.judgement ≡ Some Done → points_in l x.message ≢ []
      → Begins (acknowledged_before run l n ++ points_in l x.message) (list_of held.store l)
  pub complete : (i : ℕ) (run : SenderRun) → slice_get runs i ≡ Some run
      → Begins (run.earlier l) (list_of held.acknowledged l)
      → Begins (run.earlier l ++ acknowledged_in l run.sent) (list_of held.store l)
  pub based : (i : ℕ) (run : SenderRun) → slice_get runs i ≡ Some run
      → acknowledged_in l run.sent ≢ [] → Begins (run.earlier l) (list_of held.acknowledged l)

-- ---- what the laws ask of label sets so that none is refused
-- the message has samples of none but these label sets
abbrev pub HasOnly : (Labels → Bool) → SentMessage → Type 0
HasOnly among x = (l : Labels) → points_in l x.message ≢ [] → among l ≡ true

-- These label sets are sent with no others (`alone`), messages of them alone are within the limits
-- (`within`), and what is earlier than the log of a run was acknowledged (`covered`).
pub record CanBeTaken (limits : LabelLimits) (runs : List SenderRun) (events : List ReceiverEvent)
    (states : ℕ → ReceiverState) (among : Labels → Bool) : Type 0 where
  pub alone : (i n : ℕ) (run : SenderRun) (x : SentMessage) (l : Labels)
      → IsSentBy runs i n run x → among l ≡ true → points_in l x.message ≢ [] → HasOnly among x
  pub within : (i n : ℕ) (run : SenderRun) (x : SentMessage) → IsSentBy runs i n run x
      → HasOnly among x → AreWithinLimits limits x.message
  pub covered : (l : Labels) → among l ≡ true → IsCovered runs events states l

-- a message of these label sets alone was refused only if the head could not take it
abbrev pub IsRefusedForCause : LabelLimits → List SenderRun → List ReceiverEvent
    → (ℕ → ReceiverState) → (Labels → Bool) → Type 0
IsRefusedForCause limits runs events states among = (at i n : ℕ) (run : SenderRun)
    (x : SentMessage) → slice_get events at ≡ Some (Answers i n Refused)
    → IsSentBy runs i n run x → HasOnly among x
    → (v : Verdict) × (taken_all limits (Ok (states at).store) x.message ≡ Err v)

-- No message of these label sets alone was refused (`never`), so what the laws ask of each of them
-- is so (`no_gap`).
pub record AreNeverRefused (runs : List SenderRun) (events : List ReceiverEvent)
    (states : ℕ → ReceiverState) (among : Labels → Bool) : Type 0 where
  pub never : (at i n : ℕ) (run : SenderRun) (x : SentMessage)
      → slice_get events at ≡ Some (Answers i n Refused) → IsSentBy runs i n run x
      → HasOnly among x → ⊥
  pub no_gap : (l : Labels) → among l ≡ true → HasNoGap runs events states l
