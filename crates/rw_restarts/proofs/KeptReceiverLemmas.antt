-- A head over a journal answers, and is started again, as the laws ask of a receiver.
use Rattle.std.proofs.Common.{◌≡◌, ◌≢◌, inl, inr, ℕ, Ok, refl, sym, ap, ◌∙◌, subst, arith}
use Rattle.rw_types.specs.Beginnings.{Begins}
use Rattle.rw_types.proofs.shared.BeginningLemmas.{begins_twice}
use Rattle.rw_types.specs.Labels.{Labels}
use Rattle.rw_write_request.specs.Message.{WriteRequest}
use Rattle.rw_retry.specs.Judgements.{judgement_of}
use Rattle.rw_head.specs.Head.{State, IsStatus}
use Rattle.rw_head.specs.Store.{Store, list_of}
use Rattle.rw_kept_log.specs.Journal.{Segments}
use Rattle.rw_kept_head.specs.Kept.{SaysWhat, LiesBetween}
use Rattle.rw_restarts.specs.Receivers.{AnswersAs, IsRestarted, state_of}
use Rattle.rw_restarts.specs.KeptReceivers.{IsAdmission, acknowledged_after}
use Rattle.rw_restarts.proofs.AnswerLemmas.{answers-taken, answers-refused, answers-kept}

module _ (h : State) (m : WriteRequest) (status : ℕ) (new : State) (a : IsAdmission h m status new) (before : Store) where
  abbrev Answers : ℕ → Type 0
  Answers s = AnswersAs h.limits m (judgement_of s) (state_of h.store before) (state_of new.store (acknowledged_after (judgement_of s) before new.store))

  not_503 : (s : ℕ) → status ≡ s → (s ≡ 503 → ⊥) → status ≢ 503
  not_503 s e differ f = differ (sym e ∙ f)

  -- any answer but 204 leaves what is held
  held_still : status ≢ 503 → status ≢ 204 → new.store ≡ h.store
  held_still up other = ap (λ (s : State). s.store) (a.judged up).1 ∙ answers-kept h m (λ e. other ((a.judged up).0 ∙ e))

  same_state : new.store ≡ h.store → state_of new.store before ≡ state_of h.store before
  same_state e = ap (λ (s : Store). state_of s before) e

  with_204 : status ≡ 204 → Answers 204
  with_204 e =
      let up = not_503 204 e (λ f. absurd (omega (arith, f))) in
      (answers-taken h m (sym (a.judged up).0 ∙ e) ∙ ap (λ (s : State). Ok s.store) (sym (a.judged up).1), refl)

  with_400 : status ≡ 400 → Answers 400
  with_400 e =
      let up = not_503 400 e (λ f. absurd (omega (arith, f))) in
      (same_state (held_still up (λ f. absurd (omega (arith, e, f)))), answers-refused h m (sym (a.judged up).0 ∙ e))

  with_429 : status ≡ 429 → Answers 429
  with_429 e =
      let up = not_503 429 e (λ f. absurd (omega (arith, f))) in
      same_state (held_still up (λ f. absurd (omega (arith, e, f))))

  with_503 : status ≡ 503 → Answers 503
  with_503 e = same_state (ap (λ (s : State). s.store) (a.unavailable e))

  by_status : IsStatus status → Answers status
  by_status (inl e) = subst Answers (sym e) (with_204 e)
  by_status (inr (inl e)) = subst Answers (sym e) (with_400 e)
  by_status (inr (inr (inl e))) = subst Answers (sym e) (with_429 e)
  by_status (inr (inr (inr e))) = subst Answers (sym e) (with_503 e)

  pub admission-answers : Answers status
  admission-answers = by_status a.statuses

-- what a crash left is opened again
pub opened-again : (old most again acknowledged : Store) (left : Segments) → ((l : Labels) → Begins (list_of acknowledged l) (list_of old l)) → LiesBetween old most left → SaysWhat left again
    → IsRestarted (state_of old acknowledged) most (state_of again acknowledged)
opened-again old most again acknowledged left had between says = record {
  same = refl;
  least = λ l. begins_twice (list_of acknowledged l) (list_of old l) (list_of again l) (had l) (subst (Begins (list_of old l)) (sym (says l)) (between l).0);
  at_most = λ l. subst (λ ys. Begins ys (list_of most l)) (sym (says l)) (between l).1;
}
