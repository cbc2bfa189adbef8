-- The small history is one of those that the laws speak of.
use Rattle.std.proofs.Common.{◌≡◌, inl, ℕ, zero, suc, ◌<◌, Bool, true, false, cond, List, [], ◌∷◌, ◌++◌, length, slice_get, Option, Some, None, Ok, refl, sym, ap, ◌∙◌, subst, arith}
use Rattle.std.proofs.lemmas.Option.{same_Some}
use Rattle.std.specs.FinMap.{empty}
use Rattle.rw_types.specs.Beginnings.{Begins}
use Rattle.rw_types.proofs.shared.BeginningLemmas.{begins_itself}
use Rattle.rw_types.specs.Labels.{Labels}
use Rattle.rw_types.specs.LabelOrder.{labels_eq}
use Rattle.rw_types.proofs.shared.OrderLemmas.{equal_if_same}
use Rattle.rw_retry.specs.declared.judgement.Judgement.{Judgement}
use Rattle.rw_retry.specs.declared.judgement.Judgement.TheVariants.{Done, Again, Refused}
use Rattle.rw_head.specs.Order.{Point, accept}
use Rattle.rw_head.specs.Store.{Store, list_of, with_list}
use Rattle.rw_head.specs.Verdicts.{LabelLimits, accepted, refusal, taken_all, taken_unless}
use Rattle.rw_head.proofs.shared.StoreLemmas.{list_of-empty, list_of-with_list}
use Rattle.rw_restarts.specs.Parts.{points_in, AreWithinLimits}
use Rattle.rw_restarts.specs.Runs.{SentMessage, SenderRun, IsSentBy, SendsNext, IsRunOver, AreRunsOver, acknowledged_in}
use Rattle.rw_restarts.specs.Receivers.{ReceiverEvent, Answers, RestartsDuring, Brings, Happens, IsAnsweredAmong, IsReceiverOf, CanBeTaken, HasNoGap}
use Rattle.rw_restarts.specs.Examples.{example_series, first, second, whole, message_of, sent_with, killed_run, second_run, runs, limits, events, with_first, with_both, states}

nothing_at : {X : Type 0} (x : X) (n : ℕ) → (let none : List X = [] in slice_get none n ≡ Some x) → ⊥
nothing_at x n e = cc (e)

-- what is so of both messages of both runs is so of all
each_message : (P : ℕ → ℕ → SentMessage → Type 0) → P 0 0 (sent_with first (Some Done)) → P 0 1 (sent_with second None) → P 1 0 (sent_with first (Some Done)) → P 1 1 (sent_with second (Some Done))
    → (i n : ℕ) (run : SenderRun) (x : SentMessage) → slice_get runs i ≡ Some run → slice_get run.sent n ≡ Some x → P i n x
each_message P a b c d zero n run x at is = of_killed n (subst (λ (r : SenderRun). slice_get r.sent n ≡ Some x) (sym (same_Some killed_run run at)) is)
  where
    of_killed : (n : ℕ) → slice_get killed_run.sent n ≡ Some x → P 0 n x
    of_killed zero e = subst (P 0 0) (same_Some (sent_with first (Some Done)) x e) a
    of_killed (suc zero) e = subst (P 0 1) (same_Some (sent_with second None) x e) b
    of_killed (suc (suc n)) e = absurd (nothing_at x n e)
each_message P a b c d (suc zero) n run x at is = of_second n (subst (λ (r : SenderRun). slice_get r.sent n ≡ Some x) (sym (same_Some second_run run at)) is)
  where
    of_second : (n : ℕ) → slice_get second_run.sent n ≡ Some x → P 1 n x
    of_second zero e = subst (P 1 0) (same_Some (sent_with first (Some Done)) x e) c
    of_second (suc zero) e = subst (P 1 1) (same_Some (sent_with second (Some Done)) x e) d
    of_second (suc (suc n)) e = absurd (nothing_at x n e)
each_message P a b c d (suc (suc i)) n run x at is = absurd (nothing_at run i at)

each_run : (P : SenderRun → Type 0) → P killed_run → P second_run → (i : ℕ) (run : SenderRun) → slice_get runs i ≡ Some run → P run
each_run P a b zero run at = subst P (same_Some killed_run run at) a
each_run P a b (suc zero) run at = subst P (same_Some second_run run at) b
each_run P a b (suc (suc i)) run at = absurd (nothing_at run i at)

pub itself : labels_eq example_series example_series ≡ true
itself = equal_if_same example_series example_series refl

pub points-of-first : points_in example_series (message_of first) ≡ first ∷ []
points-of-first = ap (λ b. cond b (first ∷ []) [] ++ []) itself

pub acknowledged-once : acknowledged_in example_series (sent_with first (Some Again) ∷ sent_with first (Some Done) ∷ []) ≡ first ∷ []
acknowledged-once = ap (λ ys. ys ++ []) points-of-first

-- ---- the runs
both_in_order : (l : Labels) (b : Bool) → labels_eq l example_series ≡ b → Begins (cond b (first ∷ []) [] ++ []) (cond b (first ∷ second ∷ []) [])
both_in_order l true e = (second ∷ [], refl)
both_in_order l false e = ([], refl)

second_in_order : (b : Bool) → Begins (((cond b (first ∷ []) [] ++ []) ++ []) ++ (cond b (second ∷ []) [] ++ [])) (cond b (first ∷ second ∷ []) [])
second_in_order true = ([], refl)
second_in_order false = ([], refl)

in_order : (run : SenderRun) (answer : Option Judgement) → run ≡ record { earlier = λ l. []; sent = sent_with first (Some Done) ∷ sent_with second answer ∷ [] } → IsRunOver whole run
in_order run answer same = subst (IsRunOver whole) (sym same) over
  where
    over : IsRunOver whole (record { earlier = λ l. []; sent = sent_with first (Some Done) ∷ sent_with second answer ∷ [] })
    over l zero x is fine = subst (λ (y : SentMessage). Begins (points_in l y.message) (whole l)) (same_Some (sent_with first (Some Done)) x is) (both_in_order l (labels_eq l example_series) refl)
    over l (suc zero) x is fine = subst (λ (y : SentMessage). Begins (((points_in l (message_of first)) ++ []) ++ points_in l y.message) (whole l)) (same_Some (sent_with second answer) x is) (second_in_order (labels_eq l example_series))
    over l (suc (suc n)) x is fine = absurd (nothing_at x n is)

pub runs-are-over : AreRunsOver whole runs
runs-are-over l = each_run (SendsNext l (whole l)) (in_order killed_run None refl l) (in_order second_run (Some Done) refl l)

-- ---- what the receiver does
pub list_is : (xs : List Point) (store : Store) → list_of (with_list example_series xs store) example_series ≡ xs
list_is xs store = list_of-with_list example_series xs store example_series ∙ ap (λ b. cond b xs (list_of store example_series)) itself

-- the label set is not refused
pub taken_series : refusal limits example_series ≡ None
taken_series = refl

-- by any limits that do not refuse it
pub taken-by-limits : (some_limits : LabelLimits) → refusal some_limits example_series ≡ None → (p : Point) (store : Store) (xs ys : List Point) → list_of store example_series ≡ xs → accept (Some xs) (p ∷ []) ≡ Some ys
    → taken_all some_limits (Ok store) (message_of p) ≡ Ok (with_list example_series ys store)
taken-by-limits some_limits fine p store xs ys has gives =
    ap (λ o. taken_unless o store (record { labels = example_series; samples = (p.1, p.0) ∷ [] })) fine
    ∙ ap (λ zs. accepted example_series store (accept (Some zs) (p ∷ []))) has ∙ ap (accepted example_series store) gives

pub takes : (p : Point) (store : Store) (xs ys : List Point) → list_of store example_series ≡ xs → accept (Some xs) (p ∷ []) ≡ Some ys → taken_all limits (Ok store) (message_of p) ≡ Ok (with_list example_series ys store)
takes = taken-by-limits limits taken_series

grows : (store : Store) (l : Labels) → Begins (list_of (with_list example_series (first ∷ []) store) l) (list_of (with_both (with_list example_series (first ∷ []) store)) l)
grows store l =
    subst (λ ys. Begins ys (list_of (with_both (with_list example_series (first ∷ []) store)) l)) (sym (list_of-with_list example_series (first ∷ []) store l))
    (subst (Begins (cond (labels_eq l example_series) (first ∷ []) (list_of store l))) (sym (list_of-with_list example_series (first ∷ second ∷ []) (with_list example_series (first ∷ []) store) l))
    (by_label (labels_eq l example_series) refl))
  where
    by_label : (b : Bool) → labels_eq l example_series ≡ b → Begins (cond b (first ∷ []) (list_of store l)) (cond b (first ∷ second ∷ []) (list_of (with_list example_series (first ∷ []) store) l))
    by_label true e = (second ∷ [], refl)
    by_label false e = subst (Begins (list_of store l)) (sym (list_of-with_list example_series (first ∷ []) store l ∙ ap (λ b. cond b (first ∷ []) (list_of store l)) e)) (begins_itself (list_of store l))

sent_at : (i n : ℕ) (run : SenderRun) (x : SentMessage) → slice_get runs i ≡ Some run → slice_get run.sent n ≡ Some x → IsSentBy runs i n run x
sent_at i n run x at is = record { exists = at; is = is }

happens : (at : ℕ) (event : ReceiverEvent) → slice_get events at ≡ Some event → Happens limits runs event (states at) (states (suc at))
happens zero event e =
    subst (λ (v : ReceiverEvent). Happens limits runs v (states 0) (states 1)) (same_Some (Answers 0 0 Done) event e)
    (record { run = killed_run; x = sent_with first (Some Done); is = sent_at 0 0 killed_run (sent_with first (Some Done)) refl refl; judged = inl (takes first empty [] (first ∷ []) (list_of-empty example_series) refl, refl) })
happens (suc zero) event e =
    subst (λ (v : ReceiverEvent). Happens limits runs v (states 1) (states 2)) (same_Some (RestartsDuring 0 1) event e)
    (record {
      run = killed_run;
      x = sent_with second None;
      is = sent_at 0 1 killed_run (sent_with second None) refl refl;
      most = with_both with_first;
      judged = takes second with_first (first ∷ []) (first ∷ second ∷ []) (list_is (first ∷ []) empty) refl;
      restarted = record { same = refl; least = λ l. grows empty l; at_most = λ l. begins_itself (list_of (with_both with_first) l) };
    })
happens (suc (suc zero)) event e =
    subst (λ (v : ReceiverEvent). Happens limits runs v (states 2) (states 3)) (same_Some (Answers 1 0 Done) event e)
    (record { run = second_run; x = sent_with first (Some Done); is = sent_at 1 0 second_run (sent_with first (Some Done)) refl refl; judged = inl (takes first (with_both with_first) (first ∷ second ∷ []) (first ∷ second ∷ []) (list_is (first ∷ second ∷ []) with_first) refl, refl) })
happens (suc (suc (suc zero))) event e =
    subst (λ (v : ReceiverEvent). Happens limits runs v (states 3) (states 4)) (same_Some (Answers 1 1 Done) event e)
    (record { run = second_run; x = sent_with second (Some Done); is = sent_at 1 1 second_run (sent_with second (Some Done)) refl refl; judged = inl (takes second (with_both (with_both with_first)) (first ∷ second ∷ []) (first ∷ second ∷ []) (list_is (first ∷ second ∷ []) (with_both with_first)) refl, refl) })
happens (suc (suc (suc (suc n)))) event e = absurd (nothing_at event n e)

-- ---- the network
some_judgement : (a j : Judgement) → (let one : Option Judgement = Some a in one ≡ Some j) → a ≡ j
some_judgement a j e = same_Some a j e

no_judgement : (j : Judgement) → (let none : Option Judgement = None in none ≡ Some j) → ⊥
no_judgement j e = cc (e)

answered : (i n : ℕ) (run : SenderRun) (x : SentMessage) (j : Judgement) → IsSentBy runs i n run x → x.judgement ≡ Some j → IsAnsweredAmong events (length events) i n j
answered i n run x j sent said =
    each_message (λ i n (x : SentMessage). x.judgement ≡ Some j → IsAnsweredAmong events 4 i n j)
    (λ e. record { at = 0; early = omega arith; is = ap (λ k. Some (Answers 0 0 k)) (some_judgement Done j e) })
    (λ e. absurd (no_judgement j e))
    (λ e. record { at = 2; early = omega arith; is = ap (λ k. Some (Answers 1 0 k)) (some_judgement Done j e) })
    (λ e. record { at = 3; early = omega arith; is = ap (λ k. Some (Answers 1 1 k)) (some_judgement Done j e) })
    i n run x sent.exists sent.is said

-- the answer to the first message of a run is given before the second one comes
before : (at : ℕ) (event : ReceiverEvent) (i k n : ℕ) (j : Judgement) → slice_get events at ≡ Some event → Brings event i n → k < n → (i ≡ 0 → k ≡ 0 → Done ≡ j) → (i ≡ 1 → k ≡ 0 → Done ≡ j) → IsAnsweredAmong events at i k j
before zero event i k n j e b lt said again = absurd (let h = subst (λ (v : ReceiverEvent). Brings v i n) (sym (same_Some (Answers 0 0 Done) event e)) b in omega (arith, h.1, lt))
before (suc zero) event i k n j e b lt said again =
    let h = subst (λ (v : ReceiverEvent). Brings v i n) (sym (same_Some (RestartsDuring 0 1) event e)) b in
    let none : k ≡ 0 = omega (arith, h.1, lt) in
    record { at = 0; early = omega arith; is = ap Some (ap (λ c. Answers 0 0 c) (said (sym h.0) none) ∙ ap (λ a. Answers a 0 j) h.0 ∙ ap (λ a. Answers i a j) (sym none)) }
before (suc (suc zero)) event i k n j e b lt said again = absurd (let h = subst (λ (v : ReceiverEvent). Brings v i n) (sym (same_Some (Answers 1 0 Done) event e)) b in omega (arith, h.1, lt))
before (suc (suc (suc zero))) event i k n j e b lt said again =
    let h = subst (λ (v : ReceiverEvent). Brings v i n) (sym (same_Some (Answers 1 1 Done) event e)) b in
    let none : k ≡ 0 = omega (arith, h.1, lt) in
    record { at = 2; early = omega arith; is = ap Some (ap (λ c. Answers 1 0 c) (again (sym h.0) none) ∙ ap (λ a. Answers a 0 j) h.0 ∙ ap (λ a. Answers i a j) (sym none)) }
before (suc (suc (suc (suc n)))) event i k m j e b lt said again = absurd (nothing_at event n e)

first_done : (i k : ℕ) (run : SenderRun) (y : SentMessage) (j : Judgement) → IsSentBy runs i k run y → y.judgement ≡ Some j → k ≡ 0 → Done ≡ j
first_done i k run y j sent said =
    each_message (λ i k (y : SentMessage). y.judgement ≡ Some j → k ≡ 0 → Done ≡ j)
    (λ e none. some_judgement Done j e) (λ e none. absurd (no_judgement j e)) (λ e none. some_judgement Done j e) (λ e none. some_judgement Done j e)
    i k run y sent.exists sent.is said

nothing_earlier : (i : ℕ) (run : SenderRun) (l : Labels) (ys : List Point) → slice_get runs i ≡ Some run → Begins (run.earlier l) ys
nothing_earlier i run l ys at = each_run (λ (r : SenderRun). Begins (r.earlier l) ys) (ys, refl) (ys, refl) i run at

pub receiver-is : IsReceiverOf limits runs events states
receiver-is = record {
  begins = λ l. (list_of-empty l, list_of-empty l);
  happens = happens;
  answers = record {
    all = answered;
    before = λ at event i k n run y x j l e b sent earlier lt said some more.
        before at event i k n j e b lt (λ own none. first_done i k run y j earlier said none) (λ own none. first_done i k run y j earlier said none);
  };
}

pub can-be-taken : CanBeTaken limits runs events states (λ l. true)
can-be-taken = record {
  alone = λ i n run x l sent own some k has. refl;
  within = λ i n run x sent only. each_message (λ i n (x : SentMessage). AreWithinLimits limits x.message) (taken_series, tt) (taken_series, tt) (taken_series, tt) (taken_series, tt) i n run x sent.exists sent.is;
  covered = λ l own at event i n run x e b sent some. nothing_earlier i run l (list_of (states at).acknowledged l) sent.exists;
}

never_in : (at i n : ℕ) → slice_get events at ≡ Some (Answers i n Refused) → ⊥
never_in zero i n e = cc (e)
never_in (suc zero) i n e = cc (e)
never_in (suc (suc zero)) i n e = cc (e)
never_in (suc (suc (suc zero))) i n e = cc (e)
never_in (suc (suc (suc (suc at)))) i n e = cc (e)

pub no-gap : (l : Labels) → HasNoGap runs events states l
no-gap l = record {
  unrefused = λ at i n run x e sent. absurd (never_in at i n e);
  covered = can-be-taken.covered l refl;
}
