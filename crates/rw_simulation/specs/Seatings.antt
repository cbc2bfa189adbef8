-- Workers of one epoch that ask a shared head, each from its own seat.
use Rattle.std.specs.Prelude.{◌≡◌, ℕ, ◌<◌, ◌≤◌, true, List, [], ◌∷◌, ◌++◌, take, length, Some, Ok, slice_get}
use Rattle.std.specs.FinMap.{empty}
use Rattle.rw_types.specs.Requests.{is_host_name}
use Rattle.rw_shard_core.specs.SentRequest.{request_of}
use Rattle.rw_worker.specs.Transcript.{Exchange}
use Rattle.rw_worker.specs.declared.transport.Reply.{Reply}
use Rattle.rw_head.specs.Head.{State}
use Rattle.rw_head.specs.Store.{Store}
use Rattle.rw_recv_head.specs.declared.question.Question.{Question}
use Rattle.rw_recv_head.specs.Seats.{Seated, HasGathered, own}
use Rattle.rw_machine.specs.Worlds.{Setup}
use Rattle.rw_restarts.specs.Arrivals.{Arrival}
use Rattle.rw_simulation.specs.OneReceivers.{IsOneReceiver}
use Rattle.rw_simulation.specs.SharedReceivers.{IsAnsweredAt}

-- For an exchange a seat was asked these questions: each is the body of the request, which is
-- within the limit, and a status that was read was the answer to one of them.
pub record Asks (path : List ℕ) (limit : ℕ) (x : Exchange) (questions : List Question) : Type 0 where
  pub carries : (n : ℕ) (q : Question) → slice_get questions n ≡ Some q → (host body : List ℕ) → is_host_name host ≡ true → x.request ≡ request_of host path body → (q.body ≡ body) × (length body ≤ limit)
  pub told : (r : Reply) → x.answer ≡ Ok r → (n : ℕ) × (q : Question) × (slice_get questions n ≡ Some q) × (q.status ≡ r.status)

-- the questions of these exchanges, one after the other: each asked none, one or more
abbrev pub AreAskedFor : List ℕ → ℕ → List Exchange → List Question → Type 0
AreAskedFor path limit [] questions = questions ≡ []
AreAskedFor path limit (x ∷ xs) questions = (mine : List Question) × (later : List Question) × (questions ≡ mine ++ later) × Asks path limit x mine × AreAskedFor path limit xs later

-- From this seat the exchanges of a worker were asked, and nothing else; the head that was
-- `opening` answered them, after what it had been asked before each.
pub record IsSeatOf (path : List ℕ) (limit : ℕ) (opening : State) (exchanges : List Exchange) (s : Seated) : Type 0 where
  pub asked : AreAskedFor path limit exchanges (own s.number s.asked)
  pub answered : (n : ℕ) (q : Question) → slice_get s.asked n ≡ Some q → q.seat ≡ s.number → IsAnsweredAt opening (take n s.asked) q

-- The head was empty, its seats were returned, and each of them was the seat of one worker of the
-- first epoch. There were no other exchanges.
pub record AreSeated (c : Setup) (exchanges : ℕ → ℕ → List Exchange) (opening : State) (seats : List Seated) (store : Store) : Type 0 where
  pub empty_is : opening.store ≡ empty
  pub limits_are : opening.limits ≡ c.limits
  pub host : is_host_name c.target.host ≡ true
  pub gathered : HasGathered opening seats store
  pub seat : (k : ℕ) (s : Seated) → slice_get seats k ≡ Some s → IsSeatOf c.target.path c.max_body opening (exchanges 0 k) s
  pub alone : (e k i : ℕ) (x : Exchange) → slice_get (exchanges e k) i ≡ Some x → (e ≡ 0) × (k < length seats)

-- The head was one receiver of their requests, and holds what that receiver holds after the last
-- one; there is no premise on the network.
abbrev pub SeatsAsOne : Setup → (ℕ → ℕ → List Exchange) → State → List Seated → Store → Type 0
SeatsAsOne c exchanges opening seats store =
    c.busy ≡ 0 → AreSeated c exchanges opening seats store
    → (arrivals : List Arrival) × (heads : ℕ → State) × IsOneReceiver c exchanges arrivals heads × (store ≡ (heads (length arrivals)).store)
