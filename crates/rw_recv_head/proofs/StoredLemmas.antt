-- What a head holds that has taken one body more.
use Rattle.std.proofs.Common.{◌≡◌, ◌≢◌, ℕ, ◌+◌, ◌-◌, ◌<◌, ◌≤◌, nat_lt, nat_eq, eqb-true, eq-eqb, ne_eqb, if◌then◌else◌, List, [], ◌∷◌, ◌++◌, append_assoc, append-nil, length, slice_get, Some, Bool, true, false, true≢false, Result, refl, sym, ap, ◌∙◌, subst, ⊎_elim, arith}
use Rattle.rw_write_request.specs.Message.{WriteRequest}
use Rattle.rw_write_request.specs.Read.{read}
use Rattle.rw_write_request.specs.declared.fault.WireFault.{WireFault}
use Rattle.rw_head.specs.declared.capacity.Capacity.{Capacity}
use Rattle.rw_head.specs.Capacity.{exceeds}
use Rattle.rw_head.specs.Head.{State, SpellsMessage, judged_body, answer_to, answer}
use Rattle.rw_head.specs.Store.{total}
use Rattle.rw_head.specs.Growth.{EachRises, HasStoredBody}
use Rattle.rw_recv_head.specs.declared.question.Question.{Question}
use Rattle.rw_recv_head.specs.declared.questions.PassState.{PassState}
use Rattle.rw_recv_head.specs.Seats.{most, store_after, head_after, body_if_taken, bodies_of, Seated, HasAsked, FindsFull}
use Rattle.rw_recv_head.specs.inner.Seats.{IsKept}
use Rattle.rw_recv_head.specs.inner.Questions.{IsSeat}
use Rattle.rw_recv_head.proofs.GatheringLemmas.{at_push}

pub store_after-push : (head : State) (bodies : List (List ℕ)) (body : List ℕ)
    → store_after head (bodies ++ body ∷ []) ≡ (judged_body (record head { store = store_after head bodies }) (read body)).store
store_after-push head [] body = refl
store_after-push head (b ∷ bodies) body = store_after-push (record head { store = (judged_body head (read b)).store }) bodies body

bodies-push : (qs : List Question) (q : Question) → bodies_of (qs ++ q ∷ []) ≡ bodies_of qs ++ body_if_taken q.status q.body
bodies-push [] q = append-nil (body_if_taken q.status q.body)
bodies-push (p ∷ qs) q =
    ap (λ l. body_if_taken p.status p.body ++ l) (bodies-push qs q) ∙ sym (append_assoc (body_if_taken p.status p.body) (bodies_of qs) (body_if_taken q.status q.body))

more_taken : (qs : List Question) (q : Question) → q.status ≡ 204 → bodies_of (qs ++ q ∷ []) ≡ bodies_of qs ++ q.body ∷ []
more_taken qs q is = bodies-push qs q ∙ ap (λ (b : Bool). bodies_of qs ++ (if b then q.body ∷ [] else [])) (eq-eqb q.status 204 is)

none_taken : (qs : List Question) (q : Question) → q.status ≢ 204 → bodies_of (qs ++ q ∷ []) ≡ bodies_of qs
none_taken qs q other =
    bodies-push qs q ∙ ap (λ (b : Bool). bodies_of qs ++ (if b then q.body ∷ [] else [])) (ne_eqb q.status 204 other) ∙ append-nil (bodies_of qs)

-- a head is what its store, its limits and its count say
pub same_head : (opening head : State) (bodies : List (List ℕ)) → head.store ≡ store_after opening bodies → head.limits ≡ opening.limits
    → head ≡ head_after opening bodies head.busy
same_head opening head bodies holds limits = λ i. record { store = holds i; limits = limits i; busy = head.busy }

-- ---- one answer
module _ (head : State) where
  told : (busy : Bool) (found : Result WriteRequest WireFault) → nat_lt 0 head.busy ≡ busy
      → ((answer_to head found).head.limits ≡ head.limits) × ((answer_to head found).head.busy ≤ head.busy)
      × ((answer_to head found).status ≡ 204 → (answer_to head found).head.store ≡ (judged_body head found).store)
  told true found e = rw e (refl, omega arith, λ h. absurd (omega (arith, h)))
  told false found e = rw e (refl, omega arith, λ h. refl)

  pub answer_limits : (body : List ℕ) → (answer head body).head.limits ≡ head.limits
  answer_limits body = (told (nat_lt 0 head.busy) (read body) refl).0

  pub answer_busy : (body : List ℕ) → (answer head body).head.busy ≤ head.busy
  answer_busy body = (told (nat_lt 0 head.busy) (read body) refl).1

  answer_store : (body : List ℕ) → (answer head body).status ≡ 204 → (answer head body).head.store ≡ (judged_body head (read body)).store
  answer_store body = (told (nat_lt 0 head.busy) (read body) refl).2

-- the verdict on a body looks at the store and the limits alone
same_judged : (head other : State) (found : Result WriteRequest WireFault) → head.store ≡ other.store → head.limits ≡ other.limits
    → (judged_body head found).store ≡ (judged_body other found).store
same_judged head other found stores limits = ap (λ (t : State). (judged_body t found).store) here ∙ refl
  where
    here : record head { busy = other.busy } ≡ other
    here = λ i. record { store = stores i; limits = limits i; busy = other.busy }

pub taken_store : (opening head : State) (bodies : List (List ℕ)) (body : List ℕ) → head.store ≡ store_after opening bodies → head.limits ≡ opening.limits
    → (answer head body).status ≡ 204 → (answer head body).head.store ≡ store_after opening (bodies ++ body ∷ [])
taken_store opening head bodies body holds limits status =
    answer_store head body status ∙ same_judged head (record opening { store = store_after opening bodies }) (read body) holds limits ∙ sym (store_after-push opening bodies body)

-- ---- what stays, whatever the answer
by_status : (head new : State) (body : List ℕ) (status : ℕ) (b : Bool) → nat_eq status 503 ≡ b → (status ≢ 503 → new ≡ (answer head body).head) → (status ≡ 503 → new ≡ head)
    → (new.limits ≡ head.limits) × (new.busy ≤ head.busy)
by_status head new body status true e other memory =
    let same = memory (eqb-true status 503 e) in (ap (λ (t : State). t.limits) same, omega (arith, ap (λ (t : State). t.busy) same))
by_status head new body status false e other memory =
    let same = other (λ q. true≢false (sym (eq-eqb status 503 q) ∙ e)) in
    (ap (λ (t : State). t.limits) same ∙ answer_limits head body, omega (arith, ap (λ (t : State). t.busy) same, answer_busy head body))

pub stays : (head new : State) (body : List ℕ) (status : ℕ) → (status ≢ 503 → new ≡ (answer head body).head) → (status ≡ 503 → new ≡ head)
    → (new.limits ≡ head.limits) × (new.busy ≤ head.busy)
stays head new body status = by_status head new body status (nat_eq status 503) refl

-- ---- one request
-- what a head answered
pub record Gives (head new : State) (body : List ℕ) (status : ℕ) : Type 0 where
  pub told : status ≢ 503 → status ≡ (answer head body).status
  pub is : status ≢ 503 → new ≡ (answer head body).head
  pub memory : status ≡ 503 → (new ≡ head) × (head.busy ≡ 0)
  pub refused : status ≢ 204 → new.store ≡ head.store

no_503 : (status : ℕ) → status ≡ 204 → status ≢ 503
no_503 status e q = absurd (omega (arith, e, q))

-- what is known once it is noted
abbrev noted : PassState → ℕ → List ℕ → ℕ → PassState
noted known seat body status = record known { asked = known.asked ++ record { seat = seat; body = body; status = status } ∷ [] }

pub noted_as : (known now : PassState) (seat : ℕ) (body : List ℕ) (status told : ℕ) → status ≡ told → now ≡ noted known seat body status → now ≡ noted known seat body told
noted_as known now seat body status told same is = subst (λ s. now ≡ noted known seat body s) same is

module _ (opening head new : State) (body : List ℕ) (status : ℕ) (known now : PassState) (seat : ℕ) (gives : Gives head new body status) (is_noted : now ≡ noted known seat body status) where
  abbrev one : Question
  one = record { seat = seat; body = body; status = status }

  bodies_now : bodies_of now.asked ≡ bodies_of (known.asked ++ one ∷ [])
  bodies_now = ap (λ (k : PassState). bodies_of k.asked) is_noted

  noted_holds : (b : Bool) → nat_eq status 204 ≡ b → head.store ≡ store_after opening (bodies_of known.asked) → head.limits ≡ opening.limits
      → new.store ≡ store_after opening (bodies_of now.asked)
  noted_holds true e holds limits =
      let is = eqb-true status 204 e in
      let other = no_503 status is in
      ap (λ (t : State). t.store) (gives.is other) ∙ taken_store opening head (bodies_of known.asked) body holds limits (sym (gives.told other) ∙ is)
      ∙ sym (ap (store_after opening) (bodies_now ∙ more_taken known.asked one is))
  noted_holds false e holds limits =
      let other : status ≢ 204 = λ q. true≢false (sym (eq-eqb status 204 q) ∙ e) in
      gives.refused other ∙ holds ∙ sym (ap (store_after opening) (bodies_now ∙ none_taken known.asked one other))

  pub holds_noted : head.store ≡ store_after opening (bodies_of known.asked) → head.limits ≡ opening.limits → new.store ≡ store_after opening (bodies_of now.asked)
  holds_noted = noted_holds (nat_eq status 204) refl

  -- a head that was full has not changed
  pub finds_full : (capacity mine : Capacity) (asked : List Question) → head.store ≡ store_after opening (bodies_of known.asked) → head.limits ≡ opening.limits
      → asked ≡ now.asked → mine ≡ capacity → status ≡ 503 → exceeds mine head.store (answer head body).head.store ≡ true → FindsFull capacity opening asked body
  finds_full capacity mine asked holds limits same is e full =
      let m = gives.memory e in
      let stores : head.store ≡ store_after opening (bodies_of asked) =
      sym (ap (λ (t : State). t.store) m.0) ∙ holds_noted holds limits ∙ sym (ap (λ l. store_after opening (bodies_of l)) same) in
      let here : head ≡ head_after opening (bodies_of asked) 0 = λ i. record { store = stores i; limits = limits i; busy = m.1 i } in
      subst (λ (t : State). exceeds capacity t.store (answer t body).head.store ≡ true) here
      (subst (λ (k : Capacity). exceeds k head.store (answer head body).head.store ≡ true) is full)

  each_given : ((n : ℕ) (q : Question) → slice_get known.asked n ≡ Some q → q.seat < known.given) → seat < known.given
      → (n : ℕ) (q : Question) → slice_get now.asked n ≡ Some q → q.seat < now.given
  each_given each given n q e =
      subst (λ (k : PassState). q.seat < k.given) (sym is_noted)
      (⊎_elim (each n q) (λ (t : (n ≡ length known.asked) × (one ≡ q)). subst (λ (p : Question). p.seat < known.given) t.1 given)
      (at_push known.asked one q n (subst (λ (k : PassState). slice_get k.asked n ≡ Some q) is_noted e)))

  pub kept_again : (all parts rest parts' rest' : ℕ) → IsKept opening all (record { head = head; questions = known }) parts rest → seat < known.given
      → EachRises new.store → parts' ≡ 1 → total new.store + rest' ≡ most → IsKept opening all (record { head = new; questions = now }) parts' rest'
  kept_again all parts rest parts' rest' k given rises one_part adds =
      let s = stays head new body status gives.is (λ h. (gives.memory h).0) in record {
        rises = rises;
        holds = holds_noted k.holds k.limits;
        limits = s.0 ∙ k.limits;
        less_busy = omega (arith, s.1, k.less_busy);
        each = each_given k.each given;
        all_given = k.all_given ∙ ap (λ (x : PassState). x.given + 1) (sym is_noted);
        none_back = ap (λ (x : PassState). x.back) is_noted ∙ k.none_back;
        one_part = one_part;
        adds_up = adds;
      }

  pub asked : (all parts rest before after : ℕ) (old later : Seated) → IsKept opening all (record { head = head; questions = known }) parts rest
      → IsSeat known old.number old.asked → old.number ≡ seat
      → (status ≡ 503 → SpellsMessage body) → (status ≡ 204 → HasStoredBody body head.store new.store) → total head.store ≤ total new.store
      → before ≡ total head.store → after ≡ total new.store → later.number ≡ old.number → later.asked ≡ now.asked → later.stored ≡ old.stored + (after - before)
      → HasAsked opening old body status later
  asked all parts rest before after old later k knew is_seat readable taken more b a same sees stores =
      let holds = holds_noted k.holds k.limits in record {
        before = known.asked;
        busy = head.busy;
        later = knew.begins;
        alone = knew.alone;
        never_falls = omega (arith, stores);
        less_busy = k.less_busy;
        rises = subst EachRises k.holds k.rises;
        status_is = λ h. gives.told h ∙ ap (λ (t : State). (answer t body).status) (same_head opening head (bodies_of known.asked) k.holds k.limits);
        not_busy = λ h. (gives.memory h).1;
        readable = readable;
        number = same;
        asked = sees ∙ ap (λ (x : PassState). x.asked) is_noted
            ∙ ap (λ n. known.asked ++ record { seat = n; body = body; status = status } ∷ []) (sym is_seat);
        stored = λ h. let t = taken h in (t.0, t.1, omega (arith, t.2, more, b, a, stores));
        nothing = λ h. omega (arith, ap total (gives.refused h), b, a, stores);
        counted = omega (arith, ap (λ l. total (store_after opening (bodies_of l))) sees, ap total holds, ap total k.holds, more, b, a, stores);
      }
