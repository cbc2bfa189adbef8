-- What a request through a seat does: to what the head holds, and to what the seat has stored and
-- seen.
use Rattle.std.specs.Prelude.{◌≡◌, ◌≢◌, ℕ, ◌+◌, ◌^◌, ◌-◌, ◌≤◌, ◌==◌, if◌then◌else◌, List, [], ◌∷◌, ◌++◌, filter, Option, Some, slice_get, Ok, true}
use Rattle.atomic_table.specs.Seated.{TableId}
use Rattle.rw_types.specs.Beginnings.{Begins}
use Rattle.rw_write_request.specs.Message.{WriteRequest}
use Rattle.rw_write_request.specs.Read.{read}
use Rattle.rw_head.specs.declared.capacity.Capacity.{Capacity}
use Rattle.rw_head.specs.Capacity.{exceeds}
use Rattle.rw_head.specs.Head.{State, SpellsMessage, judged_body, answer}
use Rattle.rw_head.specs.Store.{Store, total}
use Rattle.rw_head.specs.Growth.{EachRises, sample_count}
use Rattle.rw_recv_head.specs.declared.question.Question.{Question}

-- what a head holds that has taken these bodies, one after the other
abbrev pub store_after : State → List (List ℕ) → Store
store_after head [] = head.store
store_after head (body ∷ bodies) = store_after (record head { store = (judged_body head (read body)).store }) bodies

-- that head, while it is busy for this many more requests
abbrev pub head_after : State → List (List ℕ) → ℕ → State
head_after head bodies busy = record head { store = store_after head bodies; busy = busy }

-- the body, if the head takes it: if it answers 204
abbrev pub body_if_taken : ℕ → List ℕ → List (List ℕ)
body_if_taken status body = if status == 204 then body ∷ [] else []

-- the bodies that the head takes of these questions
abbrev pub bodies_of : List Question → List (List ℕ)
bodies_of [] = []
bodies_of (q ∷ later) = body_if_taken q.status q.body ++ bodies_of later

-- those that came from one seat
abbrev pub own : ℕ → List Question → List Question
own seat qs = filter (λ (q : Question). q.seat == seat) qs

-- the number of a seat, how many samples the requests from it stored, and what the head had been
-- asked from all seats when this one asked last
pub record Seated : Type 0 where
  pub number : ℕ
  pub stored : ℕ
  pub asked : List Question

-- the body spells a message, and at most its samples were stored
abbrev pub HasStored : List ℕ → ℕ → ℕ → Type 0
HasStored body old new = (m : WriteRequest) × (read body ≡ Ok m) × (new ≤ old + sample_count m)

-- A seat of the head that was `opening` asked. The head had been asked `before` then: first what
-- the seat knew, and since then by other seats alone. It answered as a head does that holds what it
-- took of these. This question is the next one. If it is answered 204 the head takes its body, and
-- otherwise nothing. Memory runs out only for messages, in a head that is not busy.
pub record HasAsked (opening : State) (old : Seated) (body : List ℕ) (status : ℕ) (new : Seated) : Type 0 where
  pub before : List Question
  pub busy : ℕ
  pub later : Begins old.asked before
  pub alone : own old.number before ≡ own old.number old.asked
  pub never_falls : old.stored ≤ new.stored
  pub less_busy : busy ≤ opening.busy
  pub rises : EachRises (store_after opening (bodies_of before))
  pub status_is : status ≢ 503 → status ≡ (answer (head_after opening (bodies_of before) busy) body).status
  pub not_busy : status ≡ 503 → busy ≡ 0
  pub readable : status ≡ 503 → SpellsMessage body
  pub number : new.number ≡ old.number
  pub asked : new.asked ≡ before ++ record { seat = old.number; body = body; status = status } ∷ []
  pub stored : status ≡ 204 → HasStored body old.stored new.stored
  pub nothing : status ≢ 204 → new.stored ≡ old.stored
  pub counted : total (store_after opening (bodies_of new.asked)) + old.stored ≡ total (store_after opening (bodies_of before)) + new.stored

-- These questions, one after the other, led from the first holder of a head to the last one.
abbrev pub AreAdmitted : {H : Type 0} → (H → List ℕ → ℕ → H → Type 0) → H → List Question → H → Type 0
AreAdmitted admits first [] last = last ≡ first
AreAdmitted {H} admits first (q ∷ later) last =
    (next : H) × admits first q.body q.status next × AreAdmitted admits next later last

-- so did these to what held the head when it was shared
abbrev pub HasAdmitted : {H : Type 0} → (H → List ℕ → ℕ → H → Type 0) → Option H → List Question → H → Type 0
HasAdmitted {H} admits opening asked last = (first : H) × (opening ≡ Some first) × AreAdmitted admits first asked last

-- What a head holds once all seats were returned: what it takes of all that it was asked, in one
-- order. Each seat knew the first of these questions, and all of its own; and each question is of
-- one of these seats, which have different numbers.
pub record HasGathered (opening : State) (seats : List Seated) (store : Store) : Type 0 where
  pub asked : List Question
  pub holds : store ≡ store_after opening (bodies_of asked)
  pub seen : (k : ℕ) (s : Seated) → slice_get seats k ≡ Some s → Begins s.asked asked × (own s.number asked ≡ own s.number s.asked)
  pub each : (n : ℕ) (q : Question) → slice_get asked n ≡ Some q → (k : ℕ) × (s : Seated) × (slice_get seats k ≡ Some s) × (s.number ≡ q.seat)
  pub apart : (i j : ℕ) (s t : Seated) → slice_get seats i ≡ Some s → slice_get seats j ≡ Some t → s.number ≡ t.number → i ≡ j

-- The head was full: it was not busy, and with the message of this body it would hold more samples
-- or label sets than before and than its capacity.
abbrev pub FindsFull : Capacity → State → List Question → List ℕ → Type 0
FindsFull capacity opening asked body =
    exceeds capacity (store_after opening (bodies_of asked))
    (answer (head_after opening (bodies_of asked) 0) body).head.store ≡ true

-- how many samples a head held when it was shared, and among how many seats
pub record Opening : Type 0 where
  pub start : ℕ
  pub seats : ℕ

-- as many samples as can be counted
abbrev pub most : ℕ
most = 2 ^ 64 - 1

-- the table of what the seats see, and how much the head may hold
pub record HeadTable : Type 0 where
  pub id : TableId
  pub capacity : Capacity

-- a ledger that is not open yet, with its parts, and the table of what the seats see
pub record Unused : Type 0 where
  pub name : ℕ
  pub parts : ℕ
  pub table : HeadTable
