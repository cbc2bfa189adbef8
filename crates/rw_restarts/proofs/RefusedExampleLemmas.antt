-- The small history of a refused label set is one of those that the laws speak of.
use Rattle.std.proofs.Common.{◌≡◌, inl, ℕ, zero, suc, ◌<◌, Bool, true, false, cond, is_some, List, [], ◌∷◌, ◌++◌, slice_get, Some, Err, refl, sym, ap, ◌∙◌, subst, arith}
use Rattle.std.proofs.lemmas.Option.{same_Some, none-some}
use Rattle.std.specs.FinMap.{empty}
use Rattle.rw_types.specs.Beginnings.{Begins}
use Rattle.rw_types.specs.Labels.{Labels, label_fault}
use Rattle.rw_types.specs.declared.names.Names.TheVariants.{Utf8}
use Rattle.rw_types.proofs.shared.OrderLemmas.{equal_if_same}
use Rattle.rw_retry.specs.declared.judgement.Judgement.{Judgement}
use Rattle.rw_retry.specs.declared.judgement.Judgement.TheVariants.{Done, Refused}
use Rattle.rw_head.specs.declared.verdict.Verdict.{Verdict}
use Rattle.rw_head.specs.declared.verdict.Verdict.TheVariants.{BadLabels, OverLimit}
use Rattle.rw_head.specs.Order.{Point}
use Rattle.rw_head.specs.Store.{list_of}
use Rattle.rw_head.specs.Verdicts.{taken_unless}
use Rattle.rw_head.proofs.shared.StoreLemmas.{list_of-empty}
use Rattle.rw_restarts.specs.Parts.{points_in}
use Rattle.rw_restarts.specs.Runs.{SentMessage, SenderRun, IsSentBy, SendsNext, AllSendNext}
use Rattle.rw_restarts.specs.Receivers.{ReceiverEvent, Answers, Brings, Happens, IsAnsweredAmong, IsReceiverOf, IsUnrefused, HasNoGap}
use Rattle.rw_restarts.specs.Examples.{example_series, first, sent_with}
use Rattle.rw_restarts.specs.RefusedExamples.{limits, refused_series, refused_message, run, runs, events, states}
use Rattle.rw_restarts.proofs.ExampleLemmas.{points-of-first, taken-by-limits}
use Rattle.rw_restarts.proofs.RunLemmas.{not_cons}

-- ---- the messages
message_at : (P : ℕ → ℕ → SentMessage → Type 0) → P 0 0 refused_message → P 0 1 (sent_with first (Some Done)) → (i n : ℕ) (r : SenderRun) (x : SentMessage) → IsSentBy runs i n r x → P i n x
message_at P a b zero n r x sent = of_run n (subst (λ (q : SenderRun). slice_get q.sent n ≡ Some x) (sym (same_Some run r sent.exists)) sent.is)
  where
    of_run : (n : ℕ) → slice_get run.sent n ≡ Some x → P 0 n x
    of_run zero e = subst (P 0 0) (same_Some refused_message x e) a
    of_run (suc zero) e = subst (P 0 1) (same_Some (sent_with first (Some Done)) x e) b
    of_run (suc (suc n)) e = absurd (none-some x e)
message_at P a b (suc i) n r x sent = absurd (none-some r sent.exists)

apart : points_in example_series refused_message.message ≡ []
apart = refl

sends_own : SendsNext example_series (first ∷ []) run
sends_own zero x is fine = subst (λ (y : SentMessage). Begins (points_in example_series y.message) (first ∷ [])) (same_Some refused_message x is) (first ∷ [], refl)
sends_own (suc zero) x is fine =
    subst (λ (y : SentMessage). Begins (points_in example_series y.message) (first ∷ [])) (same_Some (sent_with first (Some Done)) x is)
    (subst (λ ys. Begins ys (first ∷ [])) (sym points-of-first) ([], refl))
sends_own (suc (suc n)) x is fine = absurd (none-some x is)

pub sends-first : AllSendNext example_series (first ∷ []) runs
sends-first zero r at = subst (SendsNext example_series (first ∷ [])) (same_Some run r at) sends_own
sends-first (suc i) r at = absurd (none-some r at)

-- ---- the receiver
-- whatever is found of the label's text, there are too many labels
refused_by : (b : Bool) → (v : Verdict) × (taken_unless (cond b (Some BadLabels) (Some OverLimit)) empty (record { labels = refused_series; samples = (first.1, first.0) ∷ [] }) ≡ Err v)
refused_by true = (BadLabels, refl)
refused_by false = (OverLimit, refl)

happens : (at : ℕ) (event : ReceiverEvent) → slice_get events at ≡ Some event → Happens limits runs event (states at) (states (suc at))
happens zero event e =
    subst (λ (v : ReceiverEvent). Happens limits runs v (states 0) (states 1)) (same_Some (Answers 0 0 Refused) event e)
    (record { run = run; x = refused_message; is = record { exists = refl; is = refl }; judged = inl (refl, refused_by (is_some (label_fault Utf8 refused_series))) })
happens (suc zero) event e =
    subst (λ (v : ReceiverEvent). Happens limits runs v (states 1) (states 2)) (same_Some (Answers 0 1 Done) event e)
    (record { run = run; x = sent_with first (Some Done); is = record { exists = refl; is = refl }; judged = inl (taken-by-limits limits refl first empty [] (first ∷ []) (list_of-empty example_series) refl, refl) })
happens (suc (suc n)) event e = absurd (none-some event e)

answered : (i n : ℕ) (r : SenderRun) (x : SentMessage) (j : Judgement) → IsSentBy runs i n r x → x.judgement ≡ Some j → IsAnsweredAmong events 2 i n j
answered i n r x j sent said =
    message_at (λ i n (x : SentMessage). x.judgement ≡ Some j → IsAnsweredAmong events 2 i n j)
    (λ e. record { at = 0; early = omega arith; is = ap (λ k. Some (Answers 0 0 k)) (same_Some Refused j e) })
    (λ e. record { at = 1; early = omega arith; is = ap (λ k. Some (Answers 0 1 k)) (same_Some Done j e) })
    i n r x sent said

first_refused : (i k : ℕ) (r : SenderRun) (y : SentMessage) (j : Judgement) → IsSentBy runs i k r y → y.judgement ≡ Some j → k ≡ 0 → Refused ≡ j
first_refused i k r y j sent said =
    message_at (λ i k (y : SentMessage). y.judgement ≡ Some j → k ≡ 0 → Refused ≡ j) (λ e none. same_Some Refused j e) (λ e none. absurd (omega (arith, none))) i k r y sent said

-- the first message was answered before the second one comes
before : (at : ℕ) (event : ReceiverEvent) (i k n : ℕ) (j : Judgement) → slice_get events at ≡ Some event → Brings event i n → k < n → (k ≡ 0 → Refused ≡ j) → IsAnsweredAmong events at i k j
before zero event i k n j e b lt said = absurd (let h = subst (λ (v : ReceiverEvent). Brings v i n) (sym (same_Some (Answers 0 0 Refused) event e)) b in omega (arith, h.1, lt))
before (suc zero) event i k n j e b lt said =
    let h = subst (λ (v : ReceiverEvent). Brings v i n) (sym (same_Some (Answers 0 1 Done) event e)) b in
    let none : k ≡ 0 = omega (arith, h.1, lt) in
    record { at = 0; early = omega arith; is = ap Some (ap (λ c. Answers 0 0 c) (said none) ∙ ap (λ a. Answers a 0 j) h.0 ∙ ap (λ a. Answers i a j) (sym none)) }
before (suc (suc m)) event i k n j e b lt said = absurd (none-some event e)

pub refused-receiver-is : IsReceiverOf limits runs events states
refused-receiver-is = record {
  begins = λ l. (list_of-empty l, list_of-empty l);
  happens = happens;
  answers = record {
    all = answered;
    before = λ at event i k n r y x j l e b sent earlier lt said some more. before at event i k n j e b lt (λ none. first_refused i k r y j earlier said none);
  };
}

-- ---- the label sets
none_of_first : (i n : ℕ) (r : SenderRun) (x : SentMessage) → n ≡ 0 → IsSentBy runs i n r x → points_in example_series x.message ≡ []
none_of_first i n r x first_is sent =
    message_at (λ i n (x : SentMessage). n ≡ 0 → points_in example_series x.message ≡ []) (λ is. apart) (λ is. absurd (omega (arith, is))) i n r x sent first_is

unrefused : IsUnrefused runs events example_series
unrefused zero i n r x e sent = none_of_first i n r x (let same : Answers 0 0 Refused ≡ Answers i n Refused = same_Some (Answers 0 0 Refused) (Answers i n Refused) e in cc) sent
unrefused (suc zero) i n r x e sent = absurd (let same : Answers 0 1 Done ≡ Answers i n Refused = same_Some (Answers 0 1 Done) (Answers i n Refused) e in cc)
unrefused (suc (suc at)) i n r x e sent = absurd (none-some (Answers i n Refused) e)

nothing_earlier : (i : ℕ) (r : SenderRun) (l : Labels) (ys : List Point) → slice_get runs i ≡ Some r → Begins (r.earlier l) ys
nothing_earlier zero r l ys at = subst (λ (q : SenderRun). Begins (q.earlier l) ys) (same_Some run r at) (ys, refl)
nothing_earlier (suc i) r l ys at = absurd (none-some r at)

pub first-has-no-gap : HasNoGap runs events states example_series
first-has-no-gap = record {
  unrefused = unrefused;
  covered = λ at event i n r x e b sent some. nothing_earlier i r example_series (list_of (states at).acknowledged example_series) sent.exists;
}

pub refused-has-gap : IsUnrefused runs events refused_series → ⊥
refused-has-gap none =
    not_cons first [] (sym (ap (λ b. cond b (first ∷ []) [] ++ []) (equal_if_same refused_series refused_series refl)) ∙ none 0 0 0 run refused_message refl (record { exists = refl; is = refl }))
