-- A receiver with a journal from a start to an end that was no crash: the requests that came to it,
-- as its lock let them in.
use Rattle.std.specs.Prelude.{◌≡◌, ◌⊎◌, ℕ, ◌==◌, if◌then◌else◌, List, [], ◌∷◌, ◌++◌, length, Option, None, Some, slice_get}
use Rattle.rw_worker.specs.Transcript.{Exchange}
use Rattle.rw_head.specs.Store.{Store}
use Rattle.rw_recv_head.specs.declared.question.Question.{Question}
use Rattle.rw_recv_head.specs.Seats.{AreAdmitted}
use Rattle.rw_machine.specs.Worlds.{Setup}
use Rattle.rw_machine.specs.declared.event.How.{How}
use Rattle.rw_machine.specs.declared.event.How.TheVariants.{Plain, OutOfMemory}
use Rattle.rw_kept_log.specs.Journal.{Segments}
use Rattle.rw_kept_head.specs.Answered.{IsKeptAnswer}
use Rattle.rw_kept_head.specs.Kept.{Kept}
use Rattle.rw_restarts.specs.WireReceivers.{RunOfWorkers, ExchangePlace, IsExchangeAt, WireEvent, Comes}
use Rattle.rw_restarts.specs.KeptWireReceivers.{KeptState, ReadsCarried, HasLongBody, HappensToKept}

-- A request that has come: of which exchange, the status that was answered, and what a seat was
-- asked for it, if one was.
pub record ServedRequest : Type 0 where
  pub place : ExchangePlace
  pub status : ℕ
  pub question : Option Question

abbrev pub asked_for : Option Question → List Question
asked_for None = []
asked_for (Some q) = q ∷ []

-- what the seats were asked for these
abbrev pub all_asked : List ServedRequest → List Question
all_asked [] = []
all_asked (r ∷ later) = asked_for r.question ++ all_asked later

-- A seat was asked for the body that the endpoint read; or none was, because memory had run out, or
-- because the body is too long.
abbrev pub IsServedAs : Setup → List ℕ → ℕ → Option Question → Type 0
IsServedAs c request status (Some q) =
    ReadsCarried c request q.body × (q.status ≡ status)
IsServedAs c request status None = (status ≡ 503) ⊎ ((status ≡ 413) × HasLongBody c request)

-- each request is one of these runs
abbrev pub AreServed : Setup → List RunOfWorkers → List ServedRequest → Type 0
AreServed c runs requests = (n : ℕ) (r : ServedRequest) → slice_get requests n ≡ Some r
    → (w : RunOfWorkers) × (x : Exchange) × IsExchangeAt runs r.place w x
    × IsServedAs c x.request r.status r.question

-- as an event: 503 leaves the head as it was
abbrev pub how_served : ℕ → How
how_served status = if status == 503 then OutOfMemory else Plain

abbrev pub event_of : ServedRequest → WireEvent
event_of r = Comes r.place (how_served r.status) r.status

module _ {J : Type 0} (seen : J → Segments) (may_leave : J → Segments → Type 0) (moment : J → ℕ)
    (left_since : J → ℕ → Segments → Type 0) (tears : List ℕ → List ℕ → Type 0)
  where
    -- The requests came one after the other, from what the receiver was at first to what it was at
    -- last.
    pub record AreInOrder (c : Setup) (runs : List RunOfWorkers) (requests : List ServedRequest)
        (first last : Kept J) (acknowledged : Store) : Type 0 where
      pub states : ℕ → KeptState J
      pub begins : states 0 ≡ record { kept = first; acknowledged = acknowledged }
      pub ends : (states (length requests)).kept ≡ last
      pub each : (n : ℕ) (r : ServedRequest) → slice_get requests n ≡ Some r
          → HappensToKept seen may_leave moment left_since tears c runs (event_of r) states n

    -- That is so of what `SharedHead::gather` says of a head with a journal, which was asked from
    -- its seats for these requests and nothing else.
    abbrev pub ServesInOrder : Setup → List RunOfWorkers → List ServedRequest → Kept J → Kept J
        → Store → Type 0
    ServesInOrder c runs requests first last acknowledged =
        AreAdmitted (IsKeptAnswer seen may_leave moment left_since tears) first (all_asked requests) last
        → AreServed c runs requests → AreInOrder c runs requests first last acknowledged
