-- A head that threads share is one receiver.
use Rattle.std.proofs.Common.{◌≡◌, ◌≢◌, ℕ, zero, suc, ◌-◌, ◌<◌, ◌≤◌, ◌==◌, nat_lt, Bool, true, false, cond, List, [], ◌∷◌, ◌++◌, map, take, length, Option, None, Some, Result, Ok, Err, slice_get, refl, sym, ap, ◌∙◌, subst, append-nil, append_assoc, take_all, arith, ◌⊎◌, inl, inr}
use Rattle.std.proofs.lemmas.Bool.{le-ltb, lt-ltb}
use Rattle.std.proofs.lemmas.Bool.Decides.{eqb_tells}
use Rattle.std.proofs.lemmas.List.{length-map}
use Rattle.std.proofs.lemmas.Option.{same_Some, none-some}
use Rattle.rw_plain_queue.specs.Items.{Placed}
use Rattle.rw_batch.specs.Grouping.{message}
use Rattle.rw_shard_core.specs.Shard.{labelled, body_of, IsReadAgain}
use Rattle.rw_write_request.specs.Message.{WriteRequest}
use Rattle.rw_write_request.specs.Read.{read}
use Rattle.rw_worker.specs.Transcript.{Exchange, batch_request}
use Rattle.rw_head.specs.declared.verdict.Verdict.{Verdict}
use Rattle.rw_head.specs.Head.{State, status_of, judged_body, answered, answer_to, answer}
use Rattle.rw_head.specs.Store.{Store}
use Rattle.rw_head.specs.Verdicts.{judged, taken_all, apply}
use Rattle.rw_recv_head.specs.declared.question.Question.{Question}
use Rattle.rw_recv_head.specs.Seats.{store_after, head_after, body_if_taken, bodies_of}
use Rattle.rw_recv_head.proofs.shared.StayingLemmas.{store_after-append}
use Rattle.rw_machine.specs.Worlds.{Setup}
use Rattle.rw_machine.specs.Steps.{endpoint_answer}
use Rattle.rw_machine.specs.declared.event.How.{How}
use Rattle.rw_machine.specs.declared.event.How.TheVariants.{Plain, Busy, OutOfMemory}
use Rattle.rw_restarts.specs.Arrivals.{Arrival, Receives}
use Rattle.rw_restarts.proofs.shared.ListLemmas.{map_get}
use Rattle.rw_simulation.specs.OneReceivers.{IsOneReceiver}
use Rattle.rw_simulation.specs.SharedReceivers.{Coming, questions_of, questions_in, Carries, IsAnsweredAt, IsAnswered, how_of, arrival_of, head_behind, SharesAsOne}

pub bodies-append : (xs ys : List Question) → bodies_of (xs ++ ys) ≡ bodies_of xs ++ bodies_of ys
bodies-append [] ys = refl
bodies-append (x ∷ xs) ys = ap (λ l. body_if_taken x.status x.body ++ l) (bodies-append xs ys) ∙ sym (append_assoc (body_if_taken x.status x.body) (bodies_of xs) (bodies_of ys))

-- what one more request brings
questions-next : (cs : List Coming) (n : ℕ) (a : Coming) → slice_get cs n ≡ Some a → questions_in (take (suc n) cs) ≡ questions_in (take n cs) ++ questions_of a.question
questions-next [] n a e = absurd (none-some a e)
questions-next (b ∷ bs) zero a e = append-nil (questions_of b.question) ∙ ap (λ (x : Coming). questions_of x.question) (same_Some b a e)
questions-next (b ∷ bs) (suc n) a e =
    ap (λ l. questions_of b.question ++ l) (questions-next bs n a e) ∙ sym (append_assoc (questions_of b.question) (questions_in (take n bs)) (questions_of a.question))

-- ---- how a status came about
how-busy : (status : ℕ) → status ≡ 429 → how_of status ≡ Busy
how-busy status e = ap how_of e

how-memory : (status : ℕ) → status ≡ 503 → how_of status ≡ OutOfMemory
how-memory status e = ap how_of e

how-plain : (status : ℕ) → (status == 503) ≡ false → (status == 429) ≡ false → how_of status ≡ Plain
how-plain status e f = ap (λ b. cond b OutOfMemory (cond (status == 429) Busy Plain)) e ∙ ap (λ b. cond b Busy Plain) f

-- ---- a message that is not taken changes nothing
unchanged : (store : Store) (r : Result Store Verdict) → status_of (judged store r).verdict ≢ 204 → (judged store r).store ≡ store
unchanged store (Ok next) other = absurd (other refl)
unchanged store (Err v) other = refl

-- a head that answers neither 429 nor 503 judges the message
judges : (busy : Bool) (h : State) (m : WriteRequest) (status : ℕ) → nat_lt 0 h.busy ≡ busy → (status ≡ 429 → ⊥) → status ≡ (answer_to h (Ok m)).status → status ≡ status_of (apply h.limits h.store m).verdict
judges true h m status e other is = absurd (other (is ∙ ap (λ (b : Bool). (cond b (record { status = 429; head = record h { busy = h.busy - 1 } }) (answered h (judged_body h (Ok m)))).status) e))
judges false h m status e other is = is ∙ ap (λ (b : Bool). (cond b (record { status = 429; head = record h { busy = h.busy - 1 } }) (answered h (judged_body h (Ok m)))).status) e

endpoint-short : (c : Setup) (h : State) (batch : List Placed) → length (body_of batch) ≤ c.max_body → endpoint_answer c h batch ≡ answer_to h (Ok (message (map labelled batch)))
endpoint-short c h batch short = ap (λ (b : Bool). cond b (record { status = 413; head = h }) (answer_to h (Ok (message (map labelled batch))))) (le-ltb c.max_body (length (body_of batch)) short)

endpoint-long : (c : Setup) (h : State) (batch : List Placed) → c.max_body < length (body_of batch) → endpoint_answer c h batch ≡ record { status = 413; head = h }
endpoint-long c h batch long = ap (λ (b : Bool). cond b (record { status = 413; head = h }) (answer_to h (Ok (message (map labelled batch))))) (lt-ltb c.max_body (length (body_of batch)) long)

module _ (c : Setup) (opening : State) (before : List Question) (request : List ℕ) (status : ℕ) where
  abbrev head : State
  head = head_after opening (bodies_of before) 0

  abbrev next : Option Question → State
  next q = head_after opening (bodies_of (before ++ questions_of q)) 0

  -- the bodies with those of one question more
  one_more : (q : Question) → q.status ≡ status → bodies_of (before ++ q ∷ []) ≡ bodies_of before ++ body_if_taken status q.body
  one_more q is = bodies-append before (q ∷ []) ∙ ap (λ l. bodies_of before ++ l) (append-nil (body_if_taken q.status q.body) ∙ ap (λ (s : ℕ). body_if_taken s q.body) is)

  none-taken : (q : Question) → q.status ≡ status → body_if_taken status q.body ≡ [] → next (Some q) ≡ head
  none-taken q is e = ap (λ l. head_after opening l 0) (one_more q is ∙ ap (λ l. bodies_of before ++ l) e ∙ append-nil (bodies_of before))

  not-taken : (q : Question) → (status == 204) ≡ false → body_if_taken status q.body ≡ []
  not-taken q e = ap (λ (b : Bool). cond b (q.body ∷ []) []) e

  -- the store after a message that was judged
  judged-next : (q : Question) (m : WriteRequest) → q.status ≡ status → read q.body ≡ Ok m → status ≡ status_of (apply opening.limits head.store m).verdict → (next (Some q)).store ≡ (apply opening.limits head.store m).store
  judged-next q m own reads is = ap (store_after opening) (one_more q own) ∙ by_status (eqb_tells status 204)
    where
      by_status : (((status == 204) ≡ true) × (status ≡ 204)) ⊎ (((status == 204) ≡ false) × (status ≡ 204 → ⊥)) → store_after opening (bodies_of before ++ body_if_taken status q.body) ≡ (apply opening.limits head.store m).store
      by_status (inl (e, so)) =
          ap (λ (b : Bool). store_after opening (bodies_of before ++ cond b (q.body ∷ []) [])) e
          ∙ store_after-append opening (bodies_of before) (q.body ∷ [])
          ∙ ap (λ r. (judged_body (record opening { store = store_after opening (bodies_of before) }) r).store) reads
      by_status (inr (e, other)) =
          ap (store_after opening) (ap (λ l. bodies_of before ++ l) (not-taken q e) ∙ append-nil (bodies_of before))
          ∙ sym (unchanged head.store (taken_all opening.limits (Ok head.store) m) (λ h. other (is ∙ h)))

  module _ (q : Question) (at : IsAnsweredAt opening before q) (own : q.status ≡ status) (carries : (batch : List Placed) → request ≡ batch_request c.target batch → Carries c q.body batch) where
    seat-judged : (status ≡ 503 → ⊥) → (status ≡ 429 → ⊥) → (batch : List Placed) → IsReadAgain batch → request ≡ batch_request c.target batch → endpoint_answer c head batch ≡ record { status = status; head = next (Some q) }
    seat-judged free calm batch again is =
        endpoint-short c head batch (subst (λ (b : List ℕ). length b ≤ c.max_body) (carries batch is).0 (carries batch is).1)
        ∙ let status_is = sym told in let store_is = sym stored in
        λ i. record { status = status_is i; head = record { store = store_is i; limits = opening.limits; busy = 0 } }
      where
        m : WriteRequest
        m = message (map labelled batch)

        reads : read q.body ≡ Ok m
        reads = ap read (carries batch is).0 ∙ again

        from : State
        from = head_after opening (bodies_of before) at.asked.busy

        told : status ≡ status_of (apply opening.limits head.store m).verdict
        told = judges (nat_lt 0 at.asked.busy) from m status refl calm
            (sym own ∙ at.asked.status_is (λ e. free (sym own ∙ e)) ∙ ap (λ l. (answer (head_after opening (bodies_of l) at.asked.busy) q.body).status) at.before_is ∙ ap (λ r. (answer_to from r).status) reads)

        stored : (next (Some q)).store ≡ (apply opening.limits head.store m).store
        stored = judged-next q m own reads told

    seat-answers : Receives c (how_of status) request head status (next (Some q))
    seat-answers = by_status (eqb_tells status 503) (eqb_tells status 429)
      where
        by_status : (((status == 503) ≡ true) × (status ≡ 503)) ⊎ (((status == 503) ≡ false) × (status ≡ 503 → ⊥)) → (((status == 429) ≡ true) × (status ≡ 429)) ⊎ (((status == 429) ≡ false) × (status ≡ 429 → ⊥)) → Receives c (how_of status) request head status (next (Some q))
        by_status (inl (e, so)) any = subst (λ (h : How). Receives c h request head status (next (Some q))) (sym (how-memory status so)) (so, none-taken q own (ap (λ (s : ℕ). body_if_taken s q.body) so))
        by_status (inr free) (inl (e, so)) = subst (λ (h : How). Receives c h request head status (next (Some q))) (sym (how-busy status so)) (so, none-taken q own (ap (λ (s : ℕ). body_if_taken s q.body) so))
        by_status (inr (e, free)) (inr (f, calm)) = subst (λ (h : How). Receives c h request head status (next (Some q))) (sym (how-plain status e f)) (seat-judged free calm)

  none-asked : next None ≡ head
  none-asked = ap (λ l. head_after opening (bodies_of l) 0) (append-nil before)

  answers-as-one : (q : Option Question) → IsAnswered c opening before request status q → Receives c (how_of status) request head status (next q)
  answers-as-one (Some q) (at, own, carries) = seat-answers q at own carries
  answers-as-one None (inl (so, long)) =
      subst (λ (h : How). Receives c h request head status (next None)) (sym (ap how_of so))
      (λ batch again is. endpoint-long c head batch (long batch is) ∙ let status_is = sym so in let head_is = sym none-asked in λ i. record { status = status_is i; head = head_is i })
  answers-as-one None (inr so) = subst (λ (h : How). Receives c h request head status (next None)) (sym (how-memory status so)) (so, none-asked)

pub shares-as-one : (c : Setup) (exchanges : ℕ → ℕ → List Exchange) (opening : State) (comings : List Coming) → SharesAsOne c exchanges opening comings
shares-as-one c exchanges opening comings calm shared = (one, λ seats store all same. all.holds ∙ ap (λ l. store_after opening (bodies_of l)) (same ∙ sym whole))
  where
    one : IsOneReceiver c exchanges (map arrival_of comings) (head_behind opening comings)
    one = record {
      begins = let busy_is = sym calm in λ i. record { store = shared.empty_is i; limits = shared.limits_are i; busy = busy_is i };
      receives = λ n b at.
          let a = map_get arrival_of comings n b at in
          let h = shared.answers n a.0 a.1 in
          subst (λ (y : Arrival). (x : Exchange) × (slice_get (exchanges y.epoch y.shard) y.number ≡ Some x) × Receives c y.how x.request (head_behind opening comings n) y.status (head_behind opening comings (suc n))) a.2 (
            h.0,
            h.1,
            subst (λ l. Receives c (how_of a.0.status) h.0.request (head_behind opening comings n) a.0.status (head_after opening (bodies_of l) 0)) (sym (questions-next comings n a.0 a.1))
                (answers-as-one c opening (questions_in (take n comings)) h.0.request a.0.status a.0.question h.2),
          );
      told = shared.told;
    }

    whole : questions_in (take (length (map arrival_of comings)) comings) ≡ questions_in comings
    whole = ap questions_in (take_all (length (map arrival_of comings)) comings (omega (arith, length-map comings arrival_of)))
