-- A receiver whose head is kept in a journal, from its first start to its last one. The requests of
-- the workers of many runs come to it, and after each crash it is opened from what this left.
use Rattle.std.specs.Prelude.{◌≡◌, ◌≢◌, ◌⊎◌, ℕ, zero, suc, ◌<◌, ◌≤◌, ◌^◌, Bool, true, List, [], ◌++◌, length, map, None, Some, Ok, slice_get}
use Rattle.httparse.specs.Grammar.{RequestHead}
use Rattle.std.specs.FinMap.{empty}
use Rattle.rw_types.specs.Labels.{Labels}
use Rattle.rw_types.specs.Requests.{is_host_name, is_request_path}
use Rattle.rw_types.specs.declared.entry.Entry.{Entry}
use Rattle.rw_wal_format.specs.Pieces.{page_size}
use Rattle.rw_relabel.specs.declared.choice.Choice.{Choice}
use Rattle.rw_retry.specs.Judgements.{judgement_of}
use Rattle.rw_shard_core.specs.SentRequest.{Carries}
use Rattle.rw_plain_queue.specs.Items.{Placed}
use Rattle.rw_shard_core.specs.Shard.{IsReadAgain, body_of}
use Rattle.rw_worker.specs.Transcript.{Exchange, batch_request}
use Rattle.rw_head.specs.Head.{answer}
use Rattle.rw_head.specs.Store.{Store}
use Rattle.rw_head.specs.Verdicts.{LabelLimits}
use Rattle.rw_endpoint.specs.Coding.{text_of}
use Rattle.rw_endpoint.specs.Judgement.{finding_of}
use Rattle.rw_endpoint.specs.Reading.{BeginsWithHead}
use Rattle.rw_endpoint.specs.declared.coding.Coding.{Coding}
use Rattle.rw_endpoint.specs.declared.finding.Finding.TheVariants.{Body}
use Rattle.rw_machine.specs.Worlds.{Setup}
use Rattle.rw_machine.specs.declared.event.How.{How}
use Rattle.rw_machine.specs.declared.event.How.TheVariants.{Plain, Busy, OutOfMemory}
use Rattle.rw_kept_log.specs.Journal.{Segments, LeavesOnly}
use Rattle.rw_kept_log.specs.Logs.{entries_of}
use Rattle.rw_kept_log.specs.declared.journal.JournalError.{JournalError}
use Rattle.rw_kept_log.specs.Additions.{samples_of_labels}
use Rattle.rw_kept_head.specs.Answered.{KeepsHead, IsKeptAnswer}
use Rattle.rw_kept_head.specs.Kept.{Kept, SaysWhat, HasNoChance, ended_with}
use Rattle.rw_kept_head.specs.Opening.{HasSameEntries}
use Rattle.rw_restarts.specs.KeptReceivers.{acknowledged_after}
use Rattle.rw_restarts.specs.Logs.{AreRunsOverLog, HoldsLog}
use Rattle.rw_restarts.specs.Receivers.{CanBeTaken, AreNeverRefused}
use Rattle.rw_restarts.specs.WireReceivers.{RunOfWorkers, run_of, ExchangePlace, IsExchangeAt, WireEvent, Comes, Reopens, ReopensDuring, WireState, receiver_state, HasShortBody, AreReadAnswers, AreRunsTo, IsWireReceiver, receiver_events, HasNoGapOnWire, AreShort}

-- a head over a journal, and what it held when a message was last acknowledged
pub record KeptState (J : Type 0) : Type 0 where
  pub kept : Kept J
  pub acknowledged : Store

abbrev pub wire_state : {J : Type 0} → KeptState J → WireState
wire_state s = record { head = s.kept.head; acknowledged = s.acknowledged }

-- The endpoint reads this body in the bytes of a request, as `serve` says of each request that it
-- answers (`IsRequestAnswered`): they begin with a head that refuses nothing and gives a length,
-- and as many bytes follow. They hold the body in a coding that the endpoint takes.
pub record ReadsBody (path : List ℕ) (limit : ℕ) (request body : List ℕ) : Type 0 where
  pub head : RequestHead
  pub sent : List ℕ
  pub left : List ℕ
  pub closes : Bool
  pub snappy : Bool
  pub coding : Coding
  pub begins : BeginsWithHead request head (sent ++ left)
  pub finding : finding_of path (record { limit = limit; snappy = snappy }) head ≡ Body (length sent) closes coding
  pub holds : text_of coding sent ≡ Ok body

-- The endpoint reads this body in bytes that carry the request. They are the request itself, or
-- with `send --snappy` those of its body in a block; what carries it may differ from attempt to
-- attempt.
pub record ReadsCarried (c : Setup) (request body : List ℕ) : Type 0 where
  pub bytes : List ℕ
  pub carries : Carries c.target.host c.target.path request bytes
  pub reads : ReadsBody c.target.path c.max_body bytes body

-- the body of this request is too long for the endpoint
abbrev pub HasLongBody : Setup → List ℕ → Type 0
HasLongBody c request = (batch : List Placed) → IsReadAgain batch
    → request ≡ batch_request c.target batch → c.max_body < length (body_of batch)

-- a body that the endpoint reads is not too long for it
abbrev pub ReadsShort : Setup → List RunOfWorkers → Type 0
ReadsShort c runs = (p : ExchangePlace) (w : RunOfWorkers) (x : Exchange) (body : List ℕ)
    → IsExchangeAt runs p w x → ReadsCarried c x.request body → HasShortBody c x.request

-- what the types of the settings say: the target is one to which requests can be made, and a body
-- that the receiver takes has fewer than 2^63 bytes
pub record IsSound (c : Setup) : Type 0 where
  pub host : is_host_name c.target.host ≡ true
  pub path : is_request_path c.target.path ≡ true
  pub limit : c.max_body < 2 ^ 63

module _ {J : Type 0} (seen : J → Segments) (may_leave : J → Segments → Type 0) (moment : J → ℕ)
    (left_since : J → ℕ → Segments → Type 0) (tears : List ℕ → List ℕ → Type 0)
  where
    -- ---- what the calls say
    -- what `KeptHead::admit` says of an answer
    abbrev pub Answers : Kept J → List ℕ → ℕ → Kept J → Type 0
    Answers = IsKeptAnswer seen may_leave moment left_since tears

    abbrev pub Keeps : Kept J → Type 0
    Keeps = KeepsHead seen may_leave moment left_since tears

    -- what `KeptHead::open` says of a head that it opened from this journal
    pub record IsOpened (limits : LabelLimits) (journal : J) (new : Kept J) : Type 0 where
      pub says : SaysWhat (seen journal) new.head.store
      pub kept : Keeps new
      pub no_fault : new.fault ≡ None
      pub limits_are : new.head.limits ≡ limits

    -- ---- a start
    -- The premise on the disk: the folder that is opened has what the crash left. That it stays so
    -- is no premise: `KeptHead::open` asks for it (`synced`), and `open_journal` ensures it, since
    -- it writes anew what it has read. If there is a crash before it has done so, what is left then
    -- is also something that the crash before it may have left, and is meant here.
    abbrev pub IsOnDisk : Segments → J → Type 0
    IsOnDisk left journal = seen journal ≡ left

    -- The head was opened from these segments, after n crashes while it was being opened.
    abbrev pub IsOpenedFrom : LabelLimits → ℕ → Segments → Kept J → Type 0
    IsOpenedFrom limits zero left new =
        (journal : J) × IsOnDisk left journal × IsOpened limits journal new
    IsOpenedFrom limits (suc n) left new =
        (journal : J) × (ended : J) × (again : Segments) × IsOnDisk left journal
        × LeavesOnly moment left_since journal ended (HasSameEntries (seen journal))
        × left_since ended (moment journal) again × IsOpenedFrom limits n again new

    -- ---- a request
    -- the head was asked for the body that the endpoint read
    pub record IsAskedFor (c : Setup) (request : List ℕ) (old : Kept J) (status : ℕ) (new : Kept J)
        : Type 0 where
      pub body : List ℕ
      pub reads : ReadsCarried c request body
      pub answered : Answers old body status new

    -- The request was answered: by the head, or without asking it.
    abbrev pub IsAnsweredKept : Setup → How → List ℕ → Kept J → ℕ → Kept J → Type 0
    IsAnsweredKept c Plain request old status new =
        (IsAskedFor c request old status new × (status ≢ 503))
        ⊎ ((status ≡ 413) × (new ≡ old) × HasLongBody c request)
    IsAnsweredKept c Busy request old status new = (status ≡ 429) × (new ≡ old)
    IsAnsweredKept c OutOfMemory request old status new =
        (status ≡ 503) × ((new ≡ old) ⊎ IsAskedFor c request old status new)

    pub record HasComeToKept (c : Setup) (runs : List RunOfWorkers) (p : ExchangePlace) (how : How)
        (status : ℕ) (old new : KeptState J) : Type 0 where
      pub w : RunOfWorkers
      pub x : Exchange
      pub is : IsExchangeAt runs p w x
      pub answered : IsAnsweredKept c how x.request old.kept status new.kept
      pub acknowledged : new.acknowledged
          ≡ acknowledged_after (judgement_of status) old.acknowledged new.kept.head.store

    -- ---- a crash
    -- the head was asked for n bodies more
    abbrev pub IsAskedMore : ℕ → Kept J → Kept J → Type 0
    IsAskedMore zero old new = new ≡ old
    IsAskedMore (suc n) old new = (body : List ℕ) × (status : ℕ) × (next : Kept J)
        × Answers old body status next × IsAskedMore n next new

    -- A call of the journal failed before a body was answered, not with 204, and then the head was
    -- asked for more.
    pub record HasFailed (status : ℕ) (after now : Kept J) : Type 0 where
      pub refused : status ≢ 204
      pub error : JournalError
      pub fault : after.fault ≡ Some error
      pub more : ℕ
      pub asked : IsAskedMore more after now

    -- A crash since the head was asked for a body: before it answered (`after` is what it would
    -- have come to), or later if a call of the journal had failed. No checksum is right by chance
    -- in what the crash left.
    pub record IsCrash (states : ℕ → KeptState J) (at : ℕ) (body : List ℕ) (left : Segments)
        : Type 0 where
      pub since : ℕ
      pub early : since ≤ at
      pub no_fault : (states since).kept.fault ≡ None
      pub status : ℕ
      pub after : Kept J
      pub answered : Answers (states since).kept body status after
      pub now : (at ≡ since) ⊎ HasFailed status after (states at).kept
      pub leaves : left_since after.journal (moment (states since).kept.journal) left
      pub no_chance : HasNoChance tears (ended_with status (seen after.journal))
          (answer (states since).kept.head body).head.store
          ((answered.any_moment no_fault).each left leaves).base left
          ((answered.any_moment no_fault).each left leaves).is

    -- A crash between two requests, when the log kept what the head holds: no call of the journal
    -- had failed, or `acknowledged` said so.
    abbrev pub IsIdleCrash : Kept J → Segments → Type 0
    IsIdleCrash k left = ((k.fault ≡ None) ⊎ Keeps k) × may_leave k.journal left

    -- a crash since the head was asked for a body that it does not take
    abbrev pub IsCrashAtRefused : (ℕ → KeptState J) → ℕ → Segments → Type 0
    IsCrashAtRefused states at left = (body : List ℕ) × (crash : IsCrash states at body left)
        × ((answer (states crash.since).kept.head body).status ≢ 204)

    -- ---- what happens
    -- it was opened again after any other crash
    pub record HasReopened (c : Setup) (states : ℕ → KeptState J) (at : ℕ) : Type 0 where
      pub left : Segments
      pub crash : IsIdleCrash (states at).kept left ⊎ IsCrashAtRefused states at left
      pub tries : ℕ
      pub opened : IsOpenedFrom c.limits tries left (states (suc at)).kept
      pub acknowledged : (states (suc at)).acknowledged ≡ (states at).acknowledged

    -- a crash since the head was asked for the body of this exchange, which it takes
    pub record HasReopenedAt (c : Setup) (runs : List RunOfWorkers) (p : ExchangePlace)
        (states : ℕ → KeptState J) (at : ℕ) : Type 0 where
      pub w : RunOfWorkers
      pub x : Exchange
      pub is : IsExchangeAt runs p w x
      pub body : List ℕ
      pub reads : ReadsCarried c x.request body
      pub left : Segments
      pub crash : IsCrash states at body left
      pub taken : (answer (states crash.since).kept.head body).status ≡ 204
      pub tries : ℕ
      pub opened : IsOpenedFrom c.limits tries left (states (suc at)).kept
      pub acknowledged : (states (suc at)).acknowledged ≡ (states at).acknowledged

    abbrev pub HappensToKept : Setup → List RunOfWorkers → WireEvent → (ℕ → KeptState J) → ℕ
        → Type 0
    HappensToKept c runs (Comes p how status) states at =
        HasComeToKept c runs p how status (states at) (states (suc at))
    HappensToKept c runs Reopens states at = HasReopened c states at
    HappensToKept c runs (ReopensDuring p) states at = HasReopenedAt c runs p states at

    -- A receiver that was first opened from a log without samples (`opened`), and then again from
    -- what each crash left of the log that the head before it wrote (`happens`).
    pub record IsKeptReceiver (c : Setup) (runs : List RunOfWorkers) (events : List WireEvent)
        (states : ℕ → KeptState J) : Type 0 where
      pub sound : IsSound c
      pub runs_are : AreRunsTo c runs
      pub fresh : Segments
      pub no_samples : (l : Labels) → samples_of_labels (entries_of page_size fresh) l ≡ []
      pub tries : ℕ
      pub opened : IsOpenedFrom c.limits tries fresh (states 0).kept
      pub none_yet : (states 0).acknowledged ≡ empty
      pub happens : (at : ℕ) (event : WireEvent) → slice_get events at ≡ Some event
          → HappensToKept c runs event states at
      pub reads : ReadsShort c runs
      pub answers : AreReadAnswers runs events

    -- it is one of those that the laws of what comes over the wire speak of
    abbrev pub IsWireReceiverKept : Setup → List RunOfWorkers → List WireEvent
        → (ℕ → KeptState J) → Type 0
    IsWireReceiverKept c runs events states = IsKeptReceiver c runs events states
        → IsWireReceiver c runs events (λ (at : ℕ). wire_state (states at))

    -- so it holds of a label set, and of the log of these runs, what they say
    abbrev pub HoldsLogKept : Setup → List RunOfWorkers → List WireEvent → (ℕ → KeptState J)
        → Choice → List Entry → Labels → Type 0
    HoldsLogKept c runs events states choice log l = IsKeptReceiver c runs events states
        → AreRunsOverLog choice log (map run_of runs) l
        → HasNoGapOnWire runs events (λ (at : ℕ). wire_state (states at)) l
        → HoldsLog choice log (map run_of runs)
        (receiver_state (wire_state (states (length events)))) l

    -- and refuses none that they say is not refused
    abbrev pub RefusesNoneKept : Setup → List RunOfWorkers → List WireEvent → (ℕ → KeptState J)
        → Choice → List Entry → (Labels → Bool) → Type 0
    RefusesNoneKept c runs events states choice log among = IsKeptReceiver c runs events states
        → ((l : Labels) → among l ≡ true → AreRunsOverLog choice log (map run_of runs) l)
        → CanBeTaken c.limits (map run_of runs) (receiver_events runs events)
        (λ (at : ℕ). receiver_state (wire_state (states at))) among
        → AreShort c runs among
        → AreNeverRefused (map run_of runs) (receiver_events runs events)
        (λ (at : ℕ). receiver_state (wire_state (states at))) among
