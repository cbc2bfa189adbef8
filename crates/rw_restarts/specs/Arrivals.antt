-- The exchanges of a shipper's workers, and what comes to a receiver of their requests.
use Rattle.std.specs.Prelude.{◌≡◌, ℕ, ◌<◌, List, [], ◌∷◌, Some, slice_get, ⊤}
use Rattle.rw_plain_queue.specs.Items.{Placed}
use Rattle.rw_shard_core.specs.Shard.{IsReadAgain}
use Rattle.rw_worker.specs.Steps.{exchanges_of}
use Rattle.rw_worker.specs.Transcript.{Exchange, batch_request}
use Rattle.rw_fleet.specs.Work.{AreWorked}
use Rattle.rw_fleet.specs.declared.joined.StoppedShard.{StoppedShard}
use Rattle.rw_head.specs.Head.{State}
use Rattle.rw_machine.specs.Worlds.{Setup}
use Rattle.rw_machine.specs.Steps.{endpoint_answer}
use Rattle.rw_machine.specs.declared.event.How.{How}
use Rattle.rw_machine.specs.declared.event.How.TheVariants.{Plain, Busy, OutOfMemory}

-- these are the exchanges of each worker, by its epoch and shard: those of the steps in its report
abbrev pub AreOfSteps : {T : Type 0} (tells : T → Type 0) (seen : T → List Exchange)
    (is_for : ℕ → ℕ → T → Type 0) → (ℕ → ℕ → List Exchange) → (js : List (StoppedShard T))
    → AreWorked tells seen is_for js → Type 0
AreOfSteps tells seen is_for exchanges [] h = ⊤
AreOfSteps tells seen is_for exchanges (j ∷ js) h =
    (exchanges j.worker.value.queue.epoch j.worker.value.queue.shard
    ≡ exchanges_of h.0.report.steps)
    × AreOfSteps tells seen is_for exchanges js h.1

-- and there are no others. What a transport recorded is the same, if it records.
pub record AreExchangesOf {T : Type 0} (tells : T → Type 0) (seen : T → List Exchange)
    (is_for : ℕ → ℕ → T → Type 0) (js : List (StoppedShard T))
    (worked : AreWorked tells seen is_for js) (exchanges : ℕ → ℕ → List Exchange) : Type 0 where
  pub each : AreOfSteps tells seen is_for exchanges js worked
  pub owned : (e k i : ℕ) (x : Exchange) → slice_get (exchanges e k) i ≡ Some x
      → (n : ℕ) × (j : StoppedShard T) × (slice_get js n ≡ Some j)
      × (j.worker.value.queue.epoch ≡ e) × (j.worker.value.queue.shard ≡ k)

-- A request that has come: of which exchange of which worker it was, whether the receiver judged
-- it, and the status that it answered.
pub record Arrival : Type 0 where
  pub epoch : ℕ
  pub shard : ℕ
  pub number : ℕ  -- of the exchange, among those of its worker
  pub how : How
  pub status : ℕ

-- The receiver answers these bytes in this way, from one head to the next one: without a look at
-- them, or as its endpoint answers the batch that they carry, whose body reads again as its
-- message.
abbrev pub Receives : Setup → How → List ℕ → State → ℕ → State → Type 0
Receives c Plain bytes head status next =
    (batch : List Placed) → IsReadAgain batch → bytes ≡ batch_request c.target batch
    → endpoint_answer c head batch ≡ record { status = status; head = next }
Receives c Busy bytes head status next = (status ≡ 429) × (next ≡ head)
Receives c OutOfMemory bytes head status next = (status ≡ 503) × (next ≡ head)

-- among the first n arrivals is one of this exchange with this status
pub record IsAnsweredBy (arrivals : List Arrival) (n epoch shard number status : ℕ) : Type 0 where
  pub at : ℕ
  pub early : at < n
  pub a : Arrival
  pub is : slice_get arrivals at ≡ Some a
  pub epoch_is : a.epoch ≡ epoch
  pub shard_is : a.shard ≡ shard
  pub number_is : a.number ≡ number
  pub status_is : a.status ≡ status
