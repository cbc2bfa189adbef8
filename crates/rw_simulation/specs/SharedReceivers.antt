-- A head that threads share, as the one receiver of a shipper's requests.
use Rattle.std.specs.Prelude.{◌≡◌, ◌⊎◌, ℕ, ◌<◌, ◌≤◌, ◌==◌, if◌then◌else◌, List, [], ◌∷◌, ◌++◌, map, take, length, Option, Some, None, slice_get}
use Rattle.std.specs.FinMap.{empty}
use Rattle.rw_plain_queue.specs.Items.{Placed}
use Rattle.rw_shard_core.specs.Shard.{body_of}
use Rattle.rw_worker.specs.Transcript.{Exchange, batch_request}
use Rattle.rw_head.specs.Head.{State}
use Rattle.rw_head.specs.Store.{Store}
use Rattle.rw_recv_head.specs.declared.question.Question.{Question}
use Rattle.rw_recv_head.specs.Seats.{Seated, HasAsked, HasGathered, bodies_of, head_after}
use Rattle.rw_machine.specs.Worlds.{Setup}
use Rattle.rw_machine.specs.declared.event.How.{How}
use Rattle.rw_machine.specs.declared.event.How.TheVariants.{Plain, Busy, OutOfMemory}
use Rattle.rw_restarts.specs.Arrivals.{Arrival}
use Rattle.rw_simulation.specs.OneReceivers.{AreTold, IsOneReceiver}

-- A request that has come: of which exchange of which worker it was, the status that was answered,
-- and what a seat was asked for it, if one was.
pub record Coming : Type 0 where
  pub epoch : ℕ
  pub shard : ℕ
  pub number : ℕ
  pub status : ℕ
  pub question : Option Question

abbrev pub questions_of : Option Question → List Question
questions_of None = []
questions_of (Some q) = q ∷ []

-- what the seats were asked for these
abbrev pub questions_in : List Coming → List Question
questions_in [] = []
questions_in (a ∷ later) = questions_of a.question ++ questions_in later

-- the body is the one that carries these samples, and is one that the endpoint reads
abbrev pub Carries : Setup → List ℕ → List Placed → Type 0
Carries c body batch = (body ≡ body_of batch) × (length body ≤ c.max_body)

-- A head that was `opening` and was asked `before` answers this question in this way.
pub record IsAnsweredAt (opening : State) (before : List Question) (q : Question) : Type 0 where
  pub old : Seated
  pub new : Seated
  pub asked : HasAsked opening old q.body q.status new
  pub before_is : asked.before ≡ before

-- A request is answered in this way by a head that had been asked `before`: a seat was asked for
-- the body that it carries; or none was, because the body is too long, or memory for it ran out.
abbrev pub IsAnswered : Setup → State → List Question → List ℕ → ℕ → Option Question → Type 0
IsAnswered c opening before request status (Some q) =
    IsAnsweredAt opening before q × (q.status ≡ status) × ((batch : List Placed) → request ≡ batch_request c.target batch → Carries c q.body batch)
IsAnswered c opening before request status None =
    ((status ≡ 413) × ((batch : List Placed) → request ≡ batch_request c.target batch → c.max_body < length (body_of batch))) ⊎ (status ≡ 503)

-- the same as an arrival
abbrev pub how_of : ℕ → How
how_of status = if status == 503 then OutOfMemory else (if status == 429 then Busy else Plain)

abbrev pub arrival_of : Coming → Arrival
arrival_of a = record { epoch = a.epoch; shard = a.shard; number = a.number; how = how_of a.status; status = a.status }

-- The requests that have come to a head, as its lock let them in: it was empty when it was shared,
-- each is of an exchange of a worker, and nothing else was asked.
pub record IsSharedReceiver (c : Setup) (exchanges : ℕ → ℕ → List Exchange) (opening : State) (comings : List Coming) : Type 0 where
  pub empty_is : opening.store ≡ empty
  pub limits_are : opening.limits ≡ c.limits
  pub answers : (n : ℕ) (a : Coming) → slice_get comings n ≡ Some a → (x : Exchange) × (slice_get (exchanges a.epoch a.shard) a.number ≡ Some x)
      × IsAnswered c opening (questions_in (take n comings)) x.request a.status a.question
  pub told : AreTold exchanges (map arrival_of comings)

-- the head after the first n of them
abbrev pub head_behind : State → List Coming → ℕ → State
head_behind opening comings n = head_after opening (bodies_of (questions_in (take n comings))) 0

-- A shared head behaves as one receiver that is never busy by itself; and once all seats were
-- returned, it holds what that receiver holds after the last request.
abbrev pub SharesAsOne : Setup → (ℕ → ℕ → List Exchange) → State → List Coming → Type 0
SharesAsOne c exchanges opening comings =
    c.busy ≡ 0 → IsSharedReceiver c exchanges opening comings
    → IsOneReceiver c exchanges (map arrival_of comings) (head_behind opening comings)
    × ((seats : List Seated) (store : Store) (all : HasGathered opening seats store) → all.asked ≡ questions_in comings
    → store ≡ (head_behind opening comings (length (map arrival_of comings))).store)
