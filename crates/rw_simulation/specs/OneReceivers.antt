-- One receiver to which the requests of a shipper's workers come.
use Rattle.std.specs.Prelude.{◌≡◌, ◌⊎◌, ℕ, suc, ◌<◌, List, length, Some, Ok, slice_get}
use Rattle.std.specs.FinMap.{empty}
use Rattle.rw_worker.specs.declared.transport.Reply.{Reply}
use Rattle.rw_worker.specs.Transcript.{Exchange}
use Rattle.rw_head.specs.Head.{State}
use Rattle.rw_machine.specs.Worlds.{Setup}
use Rattle.rw_restarts.specs.Arrivals.{Arrival, Receives, IsAnsweredBy}

-- the exchange was over before that of the arrival began: it is an earlier one of the same worker,
-- or one of an earlier epoch
abbrev pub IsBefore : ℕ → ℕ → ℕ → Arrival → Type 0
IsBefore epoch shard number a = (epoch < a.epoch) ⊎ ((epoch ≡ a.epoch) × (shard ≡ a.shard) × (number < a.number))

-- The premises of the network: nothing comes before its exchange began, and a status that a worker
-- was answered is one that the receiver has answered to that exchange.
pub record AreTold (exchanges : ℕ → ℕ → List Exchange) (arrivals : List Arrival) : Type 0 where
  pub later : (n : ℕ) (a : Arrival) (e k i : ℕ) (x : Exchange) (r : Reply) → slice_get arrivals n ≡ Some a → slice_get (exchanges e k) i ≡ Some x → x.answer ≡ Ok r → IsBefore e k i a → IsAnsweredBy arrivals n e k i r.status
  pub all : (e k i : ℕ) (x : Exchange) (r : Reply) → slice_get (exchanges e k) i ≡ Some x → x.answer ≡ Ok r → IsAnsweredBy arrivals (length arrivals) e k i r.status

-- The premises of the network and of one receiver, for workers with these exchanges: the requests
-- that have come are theirs, each once, often or never, and the receiver answers them one after the
-- other, from a head that is empty.
pub record IsOneReceiver (c : Setup) (exchanges : ℕ → ℕ → List Exchange) (arrivals : List Arrival) (heads : ℕ → State) : Type 0 where
  pub begins : heads 0 ≡ record { store = empty; limits = c.limits; busy = c.busy }
  pub receives : (n : ℕ) (a : Arrival) → slice_get arrivals n ≡ Some a → (x : Exchange) × (slice_get (exchanges a.epoch a.shard) a.number ≡ Some x) × Receives c a.how x.request (heads n) a.status (heads (suc n))
  pub told : AreTold exchanges arrivals
