-- The requests that a receiver with a journal answered are events, one after the other.
use Rattle.std.proofs.Common.{◌≡◌, ℕ, zero, suc, nat_eq, eqb-true, eq-eqb, if◌then◌else◌, Bool, true, false, true≢false, List, [], ◌∷◌, ◌++◌, length, Option, None, Some, slice_get, inl, inr, refl, sym, ◌∙◌, subst}
use Rattle.rw_retry.specs.Judgements.{judgement_of}
use Rattle.rw_head.specs.Store.{Store}
use Rattle.rw_recv_head.specs.declared.question.Question.{Question}
use Rattle.rw_recv_head.specs.Seats.{AreAdmitted}
use Rattle.rw_machine.specs.Worlds.{Setup}
use Rattle.rw_machine.specs.declared.event.How.{How}
use Rattle.rw_machine.specs.declared.event.How.TheVariants.{Plain, OutOfMemory}
use Rattle.rw_kept_log.specs.Journal.{Segments}
use Rattle.rw_kept_head.specs.Answered.{IsKeptAnswer}
use Rattle.rw_kept_head.specs.Kept.{Kept}
use Rattle.rw_restarts.specs.KeptReceivers.{acknowledged_after}
use Rattle.rw_restarts.specs.WireReceivers.{RunOfWorkers}
use Rattle.rw_restarts.specs.KeptWireReceivers.{KeptState, HasComeToKept, IsAnsweredKept}
use Rattle.rw_restarts.specs.ServedReceivers.{ServedRequest, asked_for, all_asked, IsServedAs, AreServed, how_served, ServesInOrder}

module _ {J : Type 0} (seen : J → Segments) (may_leave : J → Segments → Type 0) (moment : J → ℕ) (left_since : J → ℕ → Segments → Type 0) (tears : List ℕ → List ℕ → Type 0) where
  abbrev Answered : Kept J → List ℕ → ℕ → Kept J → Type 0
  Answered = IsKeptAnswer seen may_leave moment left_since tears

  -- ---- one request
  abbrev IsAnsweredAs : Setup → List ℕ → Kept J → ℕ → Kept J → How → Type 0
  IsAnsweredAs c request old status new how = IsAnsweredKept seen may_leave moment left_since tears c how request old status new

  answered_by_seat : (c : Setup) (request : List ℕ) (old new : Kept J) (status : ℕ) (q : Question) (b : Bool) → nat_eq status 503 ≡ b
      → IsServedAs c request status (Some q) → Answered old q.body q.status new → IsAnsweredAs c request old status new (if b then OutOfMemory else Plain)
  answered_by_seat c request old new status q true e (reads, is) step =
      (eqb-true status 503 e, inr (record { body = q.body; reads = reads; answered = subst (λ (s : ℕ). Answered old q.body s new) is step }))
  answered_by_seat c request old new status q false e (reads, is) step =
      inl (record { body = q.body; reads = reads; answered = subst (λ (s : ℕ). Answered old q.body s new) is step }, λ (f : status ≡ 503). true≢false (sym (eq-eqb status 503 f) ∙ e))

  answered_unasked : (c : Setup) (request : List ℕ) (old : Kept J) (status : ℕ) → IsServedAs c request status None → IsAnsweredAs c request old status old (how_served status)
  answered_unasked c request old status (inl is) =
      subst (λ (s : ℕ). IsAnsweredAs c request old s old (how_served s)) (sym is) (refl, inl refl)
  answered_unasked c request old status (inr (is, long)) =
      subst (λ (s : ℕ). IsAnsweredAs c request old s old (how_served s)) (sym is) (inr (refl, refl, long))

  -- what it was after a request, and what the later questions led to
  abbrev next_of : (question : Option Question) (later : List Question) (first last : Kept J) → AreAdmitted Answered first (asked_for question ++ later) last
      → (next : Kept J) × AreAdmitted Answered next later last
  next_of None later first last admitted = (first, admitted)
  next_of (Some q) later first last admitted = (admitted.0, admitted.2)

  step_is : (c : Setup) (request : List ℕ) (status : ℕ) (question : Option Question) (later : List Question) (first last : Kept J) (admitted : AreAdmitted Answered first (asked_for question ++ later) last)
      → IsServedAs c request status question → IsAnsweredAs c request first status (next_of question later first last admitted).0 (how_served status)
  step_is c request status None later first last admitted served = answered_unasked c request first status served
  step_is c request status (Some q) later first last admitted served = answered_by_seat c request first admitted.0 status q (nat_eq status 503) refl served admitted.1

  -- ---- all of them
  abbrev states_of : (requests : List ServedRequest) (first last : Kept J) (had : Store) → AreAdmitted Answered first (all_asked requests) last → ℕ → KeptState J
  states_of requests first last had admitted zero = record { kept = first; acknowledged = had }
  states_of [] first last had admitted (suc n) = record { kept = first; acknowledged = had }
  states_of (r ∷ later) first last had admitted (suc n) =
      let next = next_of r.question (all_asked later) first last admitted in
      states_of later next.0 last (acknowledged_after (judgement_of r.status) had next.0.head.store) next.1 n

  ends_at : (requests : List ServedRequest) (first last : Kept J) (had : Store) (admitted : AreAdmitted Answered first (all_asked requests) last) → (states_of requests first last had admitted (length requests)).kept ≡ last
  ends_at [] first last had admitted = sym admitted
  ends_at (r ∷ later) first last had admitted =
      let next = next_of r.question (all_asked later) first last admitted in
      ends_at later next.0 last (acknowledged_after (judgement_of r.status) had next.0.head.store) next.1

  module _ (c : Setup) (runs : List RunOfWorkers) where
    each_of : (requests : List ServedRequest) (first last : Kept J) (had : Store) (admitted : AreAdmitted Answered first (all_asked requests) last) → AreServed c runs requests
        → (n : ℕ) (r : ServedRequest) → slice_get requests n ≡ Some r
        → HasComeToKept seen may_leave moment left_since tears c runs r.place (how_served r.status) r.status (states_of requests first last had admitted n) (states_of requests first last had admitted (suc n))
    each_of [] first last had admitted served n r e = absurd (let f : None ≡ Some r = e in cc)
    each_of (a ∷ later) first last had admitted served zero r e =
        let next = next_of a.question (all_asked later) first last admitted in
        let one = served 0 a refl in
        let same : a ≡ r = (let f : Some a ≡ Some r = e in cc) in
        subst (λ (b : ServedRequest). HasComeToKept seen may_leave moment left_since tears c runs b.place (how_served b.status) b.status (record { kept = first; acknowledged = had }) (record { kept = next.0; acknowledged = acknowledged_after (judgement_of a.status) had next.0.head.store })) same
        (record {
          w = one.0;
          x = one.1;
          is = one.2;
          answered = step_is c one.1.request a.status a.question (all_asked later) first last admitted one.3;
          acknowledged = refl;
        })
    each_of (a ∷ later) first last had admitted served (suc n) r e =
        let next = next_of a.question (all_asked later) first last admitted in
        each_of later next.0 last (acknowledged_after (judgement_of a.status) had next.0.head.store) next.1 (λ m b at. served (suc m) b at) n r e

    pub serves-in-order : (requests : List ServedRequest) (first last : Kept J) (had : Store) → ServesInOrder seen may_leave moment left_since tears c runs requests first last had
    serves-in-order requests first last had admitted served = record {
      states = states_of requests first last had admitted;
      begins = refl;
      ends = ends_at requests first last had admitted;
      each = each_of requests first last had admitted served;
    }
