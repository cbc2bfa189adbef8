-- One exchange more over a transport in memory.
use Rattle.std.proofs.Common.{◌≡◌, ◌⊎◌, inl, inr, ℕ, zero, suc, ◌≤◌, ◌==◌, Bool, true, cond, List, [], ◌∷◌, ◌++◌, filter, take, length, Option, None, Some, Result, Ok, Err, IfOk, slice_get, refl, sym, ap, ◌∙◌, subst, length-append, append-nil, append_assoc, arith}
use Rattle.std.proofs.lemmas.Bool.{eq-eqb}
use Rattle.std.proofs.lemmas.List.{take_at, take-append-le}
use Rattle.std.proofs.lemmas.List.Elements.{filter-append}
use Rattle.std.proofs.lemmas.Option.{same_Some, none-some, slice_get_within}
use Rattle.rw_types.specs.Requests.{is_host_name}
use Rattle.rw_shard_core.specs.SentRequest.{request_of}
use Rattle.rw_worker.specs.Transcript.{Exchange, exchange_of}
use Rattle.rw_worker.specs.declared.transport.Reply.{Reply}
use Rattle.rw_worker.specs.declared.transport.Lost.{Lost}
use Rattle.rw_head.specs.Head.{State}
use Rattle.rw_recv_head.specs.declared.question.Question.{Question}
use Rattle.rw_recv_head.specs.Seats.{Seated, HasAsked, own}
use Rattle.rw_restarts.proofs.shared.ListLemmas.{get-either}
use Rattle.rw_simulation.specs.SharedReceivers.{IsAnsweredAt}
use Rattle.rw_simulation.specs.Seatings.{Asks, AreAskedFor, IsSeatOf}
use Rattle.rw_simulation.proofs.shared.Seatings.{last_or}
use Rattle.rw_simulation.proofs.shared.Passed.{passed, passes_at}
use Rattle.rw_in_memory.specs.Lines.{AreMade}
use Rattle.rw_in_memory.specs.inner.Lines.{IsAskedOnce}

-- ---- lists
-- two lists with one element after them
last_same : {X : Type 0} (xs ys : List X) (x y : X) → xs ++ x ∷ [] ≡ ys ++ y ∷ [] → x ≡ y
last_same xs ys x y e = same_Some x y (sym (at_last xs x) ∙ ap (λ l. slice_get l (length xs)) e ∙ ap (slice_get (ys ++ y ∷ [])) same_count ∙ at_last ys y)
  where
    at_last : {X : Type 0} (zs : List X) (z : X) → slice_get (zs ++ z ∷ []) (length zs) ≡ Some z
    at_last [] z = refl
    at_last (w ∷ ws) z = at_last ws z

    same_count : length xs ≡ length ys
    same_count = let a = length-append xs (x ∷ []) in let b = length-append ys (y ∷ []) in let c = ap length e in omega arith

-- what is added to a list has nothing that passes, if as many pass as before
none_pass : {X : Type 0} (p : X → Bool) (xs ys : List X) (k : ℕ) (y : X) → filter p (xs ++ ys) ≡ filter p xs → slice_get ys k ≡ Some y → p y ≡ true → ⊥
none_pass p xs ys k y same at is = let w = slice_get_within (filter p ys) (passed p ys k) y (passes_at p ys k y at is) in let a = ap length (sym (filter-append p xs ys) ∙ same) in let b = length-append (filter p xs) (filter p ys) in omega arith

-- ---- requests that a sender makes
made-front : (path : List ℕ) (xs ys : List Exchange) → AreMade path (xs ++ ys) → AreMade path xs
made-front path [] ys m = tt
made-front path (x ∷ xs) ys m = (m.0, made-front path xs ys m.1)

made-last : (path : List ℕ) (xs : List Exchange) (x : Exchange) → AreMade path (xs ++ x ∷ []) → (host : List ℕ) × (body : List ℕ) × (is_host_name host ≡ true) × (x.request ≡ request_of host path body)
made-last path [] x m = m.0
made-last path (y ∷ ys) x m = made-last path ys x m.1

asked-next : (path : List ℕ) (limit : ℕ) (xs : List Exchange) (qs : List Question) (x : Exchange) (mine : List Question) → AreAskedFor path limit xs qs → Asks path limit x mine → AreAskedFor path limit (xs ++ x ∷ []) (qs ++ mine)
asked-next path limit [] qs x mine e a = (mine, [], ap (λ l. l ++ mine) e ∙ sym (append-nil mine), a, refl)
asked-next path limit (y ∷ ys) qs x mine e a = (e.0, e.1 ++ mine, ap (λ l. l ++ mine) e.2 ∙ append_assoc e.0 e.1 mine, e.3, asked-next path limit ys e.1 x mine e.4 a)

module _ (opening : State) (path : List ℕ) (limit : ℕ) (seen : List Exchange) (old : Seated) (was : IsSeatOf path limit opening seen old) (request : List ℕ) (answer : Result Reply Lost) where
  abbrev x : Exchange
  x = exchange_of request answer

  -- nothing was asked
  quiet : (new : Seated) → new ≡ old → ((r : Reply) → answer ≡ Ok r → ⊥) → IsSeatOf path limit opening (seen ++ x ∷ []) new
  quiet new same lost = subst (IsSeatOf path limit opening (seen ++ x ∷ [])) (sym same) (record {
    asked = subst (AreAskedFor path limit (seen ++ x ∷ [])) (append-nil (own old.number old.asked)) (asked-next path limit seen (own old.number old.asked) x [] was.asked
        (record { carries = λ n q at. absurd (none-some q at); told = λ r e. absurd (lost r e) }));
    answered = was.answered;
  })

  module _ (body : List ℕ) (status : ℕ) (new : Seated) (asked : HasAsked opening old body status new) (short : length body ≤ limit) where
    abbrev q : Question
    q = record { seat = old.number; body = body; status = status }

    abbrev is_own : Question → Bool
    is_own y = y.seat == old.number

    own_is : own new.number new.asked ≡ own old.number old.asked ++ q ∷ []
    own_is =
        ap (λ (n : ℕ). own n new.asked) asked.number
        ∙ ap (own old.number) asked.asked
        ∙ filter-append is_own asked.before (q ∷ [])
        ∙ ap (λ l. l ++ filter is_own (q ∷ [])) asked.alone
        ∙ ap (λ (b : Bool). own old.number old.asked ++ cond b (q ∷ []) []) (eq-eqb old.number old.number refl)

    -- an earlier question of this seat is one that it knew
    earlier : (n : ℕ) (y : Question) → slice_get asked.before n ≡ Some y → y.seat ≡ old.number → slice_get old.asked n ≡ Some y
    earlier n y at mine = by_part (get-either old.asked asked.later.0 n y (ap (λ l. slice_get l n) (sym asked.later.1) ∙ at))
      where
        by_part : (slice_get old.asked n ≡ Some y) ⊎ ((k : ℕ) × (slice_get asked.later.0 k ≡ Some y)) → slice_get old.asked n ≡ Some y
        by_part (inl known) = known
        by_part (inr (k, there)) = absurd (none_pass is_own old.asked asked.later.0 k y (ap (filter is_own) (sym asked.later.1) ∙ asked.alone) there (eq-eqb y.seat old.number mine))

    known : (n : ℕ) → n ≤ length old.asked → take n new.asked ≡ take n old.asked
    known n le =
        ap (take n) (asked.asked ∙ ap (λ l. l ++ q ∷ []) asked.later.1 ∙ append_assoc old.asked asked.later.0 (q ∷ []))
        ∙ take-append-le n old.asked (asked.later.0 ++ q ∷ []) le

    answered : (n : ℕ) (y : Question) → slice_get new.asked n ≡ Some y → y.seat ≡ new.number → IsAnsweredAt opening (take n new.asked) y
    answered n y at mine = by_place (last_or asked.before q n y (ap (λ l. slice_get l n) (sym asked.asked) ∙ at))
      where
        by_place : (slice_get asked.before n ≡ Some y) ⊎ ((n ≡ length asked.before) × (q ≡ y)) → IsAnsweredAt opening (take n new.asked) y
        by_place (inl early) =
            let own_one = mine ∙ asked.number in
            let there = earlier n y early own_one in
            let lt = slice_get_within old.asked n y there in
            subst (λ l. IsAnsweredAt opening l y) (sym (known n (omega arith))) (was.answered n y there own_one)
        by_place (inr (last, same)) = subst (IsAnsweredAt opening (take n new.asked)) same (record {
          old = old;
          new = new;
          asked = asked;
          before_is = sym (ap (λ l. take n l) asked.asked ∙ take_at asked.before (q ∷ []) n (sym last));
        })

    -- the seat was asked
    told : ((host text : List ℕ) → is_host_name host ≡ true → request ≡ request_of host path text → IsAskedOnce opening limit old text (Some status) new) → ((r : Reply) → answer ≡ Ok r → status ≡ r.status) → IsSeatOf path limit opening (seen ++ x ∷ []) new
    told each heard = record {
      asked = subst (AreAskedFor path limit (seen ++ x ∷ [])) (sym own_is) (asked-next path limit seen (own old.number old.asked) x (q ∷ []) was.asked (record {
        carries = carries;
        told = λ r e. (0, q, refl, heard r e);
      }));
      answered = answered;
    }
      where
        carries : (n : ℕ) (y : Question) → slice_get (q ∷ []) n ≡ Some y → (host text : List ℕ) → is_host_name host ≡ true → request ≡ request_of host path text → (y.body ≡ text) × (length text ≤ limit)
        carries zero y at host text valid is =
            let again = each host text valid is in
            let same = last_same asked.before again.1.before q (record { seat = old.number; body = text; status = status }) (sym asked.asked ∙ again.1.asked) in
            (ap (λ (z : Question). z.body) (sym (same_Some q y at) ∙ same), again.0)
        carries (suc n) y at host text valid is = absurd (none-some y at)

same-reply : (s r : Reply) → ◌≡◌ {A = Result Reply Lost} (Ok s) (Ok r) → s ≡ r
same-reply s r e = cc

no-reply : (lost : Lost) (r : Reply) → ◌≡◌ {A = Result Reply Lost} (Err lost) (Ok r) → ⊥
no-reply lost r e = cc

pub line-next : (opening : State) (path : List ℕ) (limit : ℕ) (seen : List Exchange) (old new : Seated) (request : List ℕ) (answer : Result Reply Lost) (status : Option ℕ) → (AreMade path seen → IsSeatOf path limit opening seen old)
    → ((host body : List ℕ) → is_host_name host ≡ true → request ≡ request_of host path body → IsAskedOnce opening limit old body status new) → IfOk answer (λ r. status ≡ Some r.status)
    → AreMade path (seen ++ exchange_of request answer ∷ []) → IsSeatOf path limit opening (seen ++ exchange_of request answer ∷ []) new
line-next opening path limit seen old new request answer status was each heard made = by_status status each (heard_so answer heard)
  where
    before : IsSeatOf path limit opening seen old
    before = was (made-front path seen _ made)

    last : (host : List ℕ) × (body : List ℕ) × (is_host_name host ≡ true) × (request ≡ request_of host path body)
    last = made-last path seen (exchange_of request answer) made

    heard_so : (a : Result Reply Lost) → IfOk a (λ r. status ≡ Some r.status) → (r : Reply) → a ≡ Ok r → status ≡ Some r.status
    heard_so (Ok s) h r e = h ∙ ap (λ (y : Reply). Some y.status) (same-reply s r e)
    heard_so (Err lost) h r e = absurd (no-reply lost r e)

    by_status : (o : Option ℕ) → ((host body : List ℕ) → is_host_name host ≡ true → request ≡ request_of host path body → IsAskedOnce opening limit old body o new) → ((r : Reply) → answer ≡ Ok r → o ≡ Some r.status) → IsSeatOf path limit opening (seen ++ exchange_of request answer ∷ []) new
    by_status None each heard = quiet opening path limit seen old before request answer new (each last.0 last.1 last.2 last.3) (λ r e. none-some r.status (heard r e))
    by_status (Some n) each heard = let a = each last.0 last.1 last.2 last.3 in told opening path limit seen old before request answer last.1 n new a.1 a.0 each (λ r e. same_Some n r.status (heard r e))
