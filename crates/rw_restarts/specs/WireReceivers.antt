-- What comes over the wire to a receiver that is started again, of the workers of many runs.
use Rattle.std.specs.Prelude.{◌≡◌, ◌⊎◌, ℕ, zero, suc, ◌+◌, ◌<◌, ◌≤◌, Bool, true, List, [], ◌∷◌, length, map, Option, None, Some, Ok, slice_get}
use Rattle.rw_types.specs.Labels.{Labels}
use Rattle.rw_types.specs.declared.entry.Entry.{Entry}
use Rattle.rw_relabel.specs.declared.choice.Choice.{Choice}
use Rattle.rw_retry.specs.Judgements.{judgement_of}
use Rattle.rw_plain_queue.specs.Items.{Placed}
use Rattle.rw_batch.specs.Grouping.{message}
use Rattle.rw_shard_core.specs.Shard.{IsReadAgain, body_of, labelled}
use Rattle.rw_shard_core.specs.declared.config.Target.{Target}
use Rattle.rw_worker.specs.declared.transport.Reply.{Reply}
use Rattle.rw_worker.specs.Steps.{Step, exchanges_of}
use Rattle.rw_worker.specs.Transcript.{Exchange, batch_request}
use Rattle.rw_fleet.specs.ShardHistories.{ShardHistory}
use Rattle.rw_sender.specs.Shipping.{Shipping, HasStopped}
use Rattle.rw_sender.specs.declared.report.Report.{Report}
use Rattle.rw_head.specs.Head.{State}
use Rattle.rw_head.specs.Store.{Store}
use Rattle.rw_head.specs.Verdicts.{taken_all}
use Rattle.rw_machine.specs.Worlds.{Setup}
use Rattle.rw_machine.specs.declared.event.How.{How}
use Rattle.rw_restarts.specs.Arrivals.{Receives}
use Rattle.rw_restarts.specs.Runs.{SentMessage, SenderRun}
use Rattle.rw_restarts.specs.Receivers.{ReceiverEvent, Answers, Restarts, RestartsDuring, ReceiverState, state_of, HoldsNothing, IsRestarted, IsReceiverOf, HasNoGap, HasOnly, CanBeTaken, AreNeverRefused}
use Rattle.rw_restarts.specs.KeptReceivers.{acknowledged_after}
use Rattle.rw_restarts.specs.Logs.{AreRunsOverLog, HoldsLog}
use Rattle.rw_restarts.specs.Shards.{AreMessagesOfEpochs}
use Rattle.rw_restarts.specs.Stopped.{IsStoppedRun, run_from_start, steps_reported}

-- A run of a sender, and what its workers did: the shards of all its epochs, and the steps of each
-- worker, by its epoch and shard.
pub record RunOfWorkers : Type 0 where
  pub run : SenderRun
  pub epochs : List (List ShardHistory)
  pub steps : ℕ → ℕ → List Step

abbrev pub run_of : RunOfWorkers → SenderRun
run_of w = w.run

-- the run sent the messages of its workers, all of them to this target
pub record IsRunOfWorkers (to : Target) (w : RunOfWorkers) : Type 0 where
  pub messages : AreMessagesOfEpochs 0 w.epochs w.steps w.run.sent
  pub target : (e k : ℕ) (shards : List ShardHistory) (shard : ShardHistory)
      → slice_get w.epochs e ≡ Some shards → slice_get shards k ≡ Some shard
      → shard.setup.target ≡ to

-- ---- which exchange of which worker
pub record ExchangePlace : Type 0 where
  pub run : ℕ
  pub epoch : ℕ
  pub shard : ℕ
  pub number : ℕ  -- among those of its worker

-- the exchange at this place
pub record IsExchangeAt (runs : List RunOfWorkers) (p : ExchangePlace) (w : RunOfWorkers)
    (x : Exchange) : Type 0 where
  pub exists : slice_get runs p.run ≡ Some w
  pub shards : List ShardHistory
  pub shard : ShardHistory
  pub epoch : slice_get w.epochs p.epoch ≡ Some shards
  pub at : slice_get shards p.shard ≡ Some shard
  pub is : slice_get (exchanges_of (w.steps p.epoch p.shard)) p.number ≡ Some x

-- The exchange was over before the other one began: it is an earlier one of the same worker, or one
-- of an earlier epoch of the same run.
abbrev pub IsEarlierExchange : ExchangePlace → ExchangePlace → Type 0
IsEarlierExchange p q = (p.run ≡ q.run) × ((p.epoch < q.epoch)
    ⊎ ((p.epoch ≡ q.epoch) × (p.shard ≡ q.shard) × (p.number < q.number)))

-- how many exchanges the workers of the n shards from number k on had
abbrev pub exchanges_before : ℕ → (ℕ → List Step) → ℕ → ℕ
exchanges_before k steps zero = 0
exchanges_before k steps (suc n) =
    length (exchanges_of (steps k)) + exchanges_before (suc k) steps n

-- how many those of the n epochs from number e on had
abbrev pub exchanges_before_epoch : ℕ → List (List ShardHistory) → (ℕ → ℕ → List Step) → ℕ → ℕ
exchanges_before_epoch e [] steps n = 0
exchanges_before_epoch e (shards ∷ later) steps zero = 0
exchanges_before_epoch e (shards ∷ later) steps (suc n) =
    exchanges_before 0 (steps e) (length shards) + exchanges_before_epoch (suc e) later steps n

-- the number of the message of this exchange among the messages of its run
abbrev pub number_by : Option RunOfWorkers → ExchangePlace → ℕ
number_by None p = 0
number_by (Some w) p = exchanges_before_epoch 0 w.epochs w.steps p.epoch
    + (exchanges_before 0 (w.steps p.epoch) p.shard + p.number)

abbrev pub message_number : List RunOfWorkers → ExchangePlace → ℕ
message_number runs p = number_by (slice_get runs p.run) p

-- ---- the receiver
-- What happens to a receiver: a request of this exchange comes, and is answered with this status,
-- judged or not; it is started again; or it is started again while it works on such a request.
pub data WireEvent : Type 0 where
  Comes : (place : ExchangePlace) → (how : How) → (status : ℕ) → WireEvent
  Reopens : WireEvent
  ReopensDuring : (place : ExchangePlace) → WireEvent

-- the head of the receiver, and what this held when a message was last acknowledged
pub record WireState : Type 0 where
  pub head : State
  pub acknowledged : Store

abbrev pub receiver_state : WireState → ReceiverState
receiver_state s = state_of s.head.store s.acknowledged

-- the endpoint takes a body as long as that of this request
abbrev pub HasShortBody : Setup → List ℕ → Type 0
HasShortBody c request = (batch : List Placed) → IsReadAgain batch
    → request ≡ batch_request c.target batch → length (body_of batch) ≤ c.max_body

-- the request has come, and was answered as the endpoint answers it
pub record HasCome (c : Setup) (runs : List RunOfWorkers) (p : ExchangePlace) (how : How)
    (status : ℕ) (old new : WireState) : Type 0 where
  pub w : RunOfWorkers
  pub x : Exchange
  pub is : IsExchangeAt runs p w x
  pub received : Receives c how x.request old.head status new.head
  pub acknowledged : new.acknowledged
      ≡ acknowledged_after (judgement_of status) old.acknowledged new.head.store

-- it was started again while it was about to take the message of this request
pub record HasReopenedDuring (c : Setup) (runs : List RunOfWorkers) (p : ExchangePlace)
    (old new : WireState) : Type 0 where
  pub w : RunOfWorkers
  pub x : Exchange
  pub is : IsExchangeAt runs p w x
  pub most : Store
  pub judged : (batch : List Placed) → IsReadAgain batch → x.request ≡ batch_request c.target batch
      → taken_all c.limits (Ok old.head.store) (message (map labelled batch)) ≡ Ok most
  pub restarted : IsRestarted (receiver_state old) most (receiver_state new)

-- the event leads from one state of the receiver to the next one
abbrev pub HappensOnWire : Setup → List RunOfWorkers → WireEvent → WireState → WireState → Type 0
HappensOnWire c runs (Comes p how status) old new = HasCome c runs p how status old new
HappensOnWire c runs Reopens old new =
    IsRestarted (receiver_state old) old.head.store (receiver_state new)
HappensOnWire c runs (ReopensDuring p) old new = HasReopenedDuring c runs p old new

-- a request of this exchange comes in this event
abbrev pub BringsExchange : WireEvent → ExchangePlace → Type 0
BringsExchange (Comes q how status) p = q ≡ p
BringsExchange Reopens p = ⊥
BringsExchange (ReopensDuring q) p = q ≡ p

-- among the first events the receiver answered a request of this exchange so
pub record IsAnsweredOnWire (events : List WireEvent) (first : ℕ) (p : ExchangePlace) (status : ℕ)
    : Type 0 where
  pub at : ℕ
  pub early : at < first
  pub how : How
  pub is : slice_get events at ≡ Some (Comes p how status)

-- The premises on the network: a status that a worker read the receiver answered to this exchange
-- (`all`), and nothing comes before its exchange began (`later`): when a request comes, each
-- exchange that was over before was answered.
pub record AreReadAnswers (runs : List RunOfWorkers) (events : List WireEvent) : Type 0 where
  pub all : (p : ExchangePlace) (w : RunOfWorkers) (x : Exchange) (r : Reply)
      → IsExchangeAt runs p w x → x.answer ≡ Ok r
      → IsAnsweredOnWire events (length events) p r.status
  pub later : (at : ℕ) (event : WireEvent) (p q : ExchangePlace) (w : RunOfWorkers) (x : Exchange)
      (r : Reply) → slice_get events at ≡ Some event → BringsExchange event q
      → IsEarlierExchange p q → IsExchangeAt runs p w x → x.answer ≡ Ok r
      → IsAnsweredOnWire events at p r.status

-- these are runs of workers to one receiver
abbrev pub AreRunsTo : Setup → List RunOfWorkers → Type 0
AreRunsTo c runs =
    (i : ℕ) (w : RunOfWorkers) → slice_get runs i ≡ Some w → IsRunOfWorkers c.target w

-- One receiver, which began empty. The requests of the workers of these runs come to it, each once,
-- often, late or never, and it is started again any number of times.
pub record IsWireReceiver (c : Setup) (runs : List RunOfWorkers) (events : List WireEvent)
    (states : ℕ → WireState) : Type 0 where
  pub runs_are : AreRunsTo c runs
  pub begins : HoldsNothing (receiver_state (states 0))
  pub limits : (at : ℕ) → at ≤ length events → (states at).head.limits ≡ c.limits
  pub happens : (at : ℕ) (event : WireEvent) → slice_get events at ≡ Some event
      → HappensOnWire c runs event (states at) (states (suc at))
  pub answers : AreReadAnswers runs events

-- ---- as messages and events
abbrev pub receiver_event : List RunOfWorkers → WireEvent → ReceiverEvent
receiver_event runs (Comes p how status) =
    Answers p.run (message_number runs p) (judgement_of status)
receiver_event runs Reopens = Restarts
receiver_event runs (ReopensDuring p) = RestartsDuring p.run (message_number runs p)

abbrev pub receiver_events : List RunOfWorkers → List WireEvent → List ReceiverEvent
receiver_events runs events = map (receiver_event runs) events

-- what happens to it is what the laws ask of a receiver of the messages of these runs
abbrev pub IsReceiverByWire : Setup → List RunOfWorkers → List WireEvent → (ℕ → WireState) → Type 0
IsReceiverByWire c runs events states = IsWireReceiver c runs events states
    → IsReceiverOf c.limits (map run_of runs) (receiver_events runs events)
    (λ (at : ℕ). receiver_state (states at))

-- what the laws ask of a label set is so of the messages of these requests
abbrev pub HasNoGapOnWire : List RunOfWorkers → List WireEvent → (ℕ → WireState) → Labels → Type 0
HasNoGapOnWire runs events states l = HasNoGap (map run_of runs) (receiver_events runs events)
    (λ (at : ℕ). receiver_state (states at)) l

-- then it holds of this label set, and of the log of the runs, what the laws say
abbrev pub HoldsLogByWire : Setup → List RunOfWorkers → List WireEvent → (ℕ → WireState) → Choice
    → List Entry → Labels → Type 0
HoldsLogByWire c runs events states choice log l = IsWireReceiver c runs events states
    → AreRunsOverLog choice log (map run_of runs) l → HasNoGapOnWire runs events states l
    → HoldsLog choice log (map run_of runs) (receiver_state (states (length events))) l

-- ---- label sets that are not refused
-- the endpoint takes the body of each request whose message has samples of these label sets alone
abbrev pub AreShort : Setup → List RunOfWorkers → (Labels → Bool) → Type 0
AreShort c runs among = (p : ExchangePlace) (w : RunOfWorkers) (x : Exchange) (m : SentMessage)
    → IsExchangeAt runs p w x → slice_get w.run.sent (message_number runs p) ≡ Some m
    → HasOnly among m → HasShortBody c x.request

-- if the limits take these label sets and these bodies, no message of them is refused
abbrev pub RefusesNone : Setup → List RunOfWorkers → List WireEvent → (ℕ → WireState) → Choice
    → List Entry → (Labels → Bool) → Type 0
RefusesNone c runs events states choice log among = IsWireReceiver c runs events states
    → ((l : Labels) → among l ≡ true → AreRunsOverLog choice log (map run_of runs) l)
    → CanBeTaken c.limits (map run_of runs) (receiver_events runs events)
    (λ (at : ℕ). receiver_state (states at)) among
    → AreShort c runs among
    → AreNeverRefused (map run_of runs) (receiver_events runs events)
    (λ (at : ℕ). receiver_state (states at)) among

-- ---- a shipper that was stopped
module _ {T : Type 0} (tells : T → Type 0) (seen : T → List Exchange) (is_for : ℕ → ℕ → T → Type 0)
  where
    -- it is a run, with what its workers did by the steps that they report
    abbrev pub workers_of : (s : Shipping T) (r : Report T) (h : HasStopped tells seen is_for s r)
        → IsStoppedRun tells seen is_for s r h → RunOfWorkers
    workers_of s r h run = record {
      run = run_from_start run.run.sent;
      epochs = run.epochs;
      steps = steps_reported tells seen is_for run.epochs h.joined h.worked;
    }

    -- whose requests go to the target that it is set to
    abbrev pub StopsAsWorkers : Shipping T → Report T → Type 0
    StopsAsWorkers s r = (h : HasStopped tells seen is_for s r)
        (run : IsStoppedRun tells seen is_for s r h)
        → IsRunOfWorkers s.fleet.config.target (workers_of s r h run)
