-- What a message that a head takes makes of each list.
use Rattle.std.proofs.Common.{◌≡◌, inl, inr, Bool, true, false, cond, List, [], ◌∷◌, ◌++◌, Option, Some, None, Result, Ok, Err, refl, sym, ap, ◌∙◌}
use Rattle.rw_types.specs.Labels.{Labels}
use Rattle.rw_types.specs.LabelOrder.{labels_eq}
use Rattle.rw_types.proofs.shared.OrderLemmas.{same_if_equal}
use Rattle.rw_write_request.specs.Message.{TimeSeries, WriteRequest}
use Rattle.rw_head.specs.declared.verdict.Verdict.{Verdict}
use Rattle.rw_head.specs.Order.{Point, points, accept}
use Rattle.rw_head.specs.Store.{Store, list_of, with_list}
use Rattle.rw_head.specs.Verdicts.{LabelLimits, refusal, accepted, taken, taken_unless, taken_all}
use Rattle.rw_head.proofs.shared.OrderRule.{accept-append}
use Rattle.rw_head.proofs.shared.StoreLemmas.{list_of-with_list}
use Rattle.rw_head.proofs.shared.VerdictLemmas.{taken_all-err}
use Rattle.rw_retry.specs.declared.judgement.Judgement.{Judgement}
use Rattle.rw_retry.specs.declared.judgement.Judgement.TheVariants.{Done, Again, Refused}
use Rattle.rw_restarts.specs.Parts.{points_in}
use Rattle.rw_restarts.specs.Receivers.{ReceiverState, AnswersAs, AnswersOrRefuses}

ok_is : (a b : Store) → (let no : Result Store Verdict = Ok a in no ≡ Ok b) → a ≡ b
ok_is a b e = cc e

no_ok : (v : Verdict) (b : Store) → (let no : Result Store Verdict = Err v in no ≡ Ok b) → ⊥
no_ok v b e = cc e

-- the samples of a series that are of this label set
abbrev own : Labels → TimeSeries → List Point
own l s = cond (labels_eq l s.labels) (points s.samples) []

series_accepted : (s : TimeSeries) (store : Store) (ys : List Point) (l : Labels) → accept (Some (list_of store s.labels)) (points s.samples) ≡ Some ys
    → accept (Some (list_of store l)) (own l s) ≡ Some (list_of (with_list s.labels ys store) l)
series_accepted s store ys l e = by_label (labels_eq l s.labels) refl
  where
    by_label : (b : Bool) → labels_eq l s.labels ≡ b → accept (Some (list_of store l)) (cond b (points s.samples) []) ≡ Some (list_of (with_list s.labels ys store) l)
    by_label true at =
        ap (λ (q : Labels). accept (Some (list_of store q)) (points s.samples)) (same_if_equal l s.labels at) ∙ e
        ∙ ap Some (sym (list_of-with_list s.labels ys store l ∙ ap (λ b. cond b ys (list_of store l)) at))
    by_label false at = ap Some (sym (list_of-with_list s.labels ys store l ∙ ap (λ b. cond b ys (list_of store l)) at))

one_accepted : (limits : LabelLimits) (s : TimeSeries) (store next : Store) (l : Labels) → taken limits store s ≡ Ok next → accept (Some (list_of store l)) (own l s) ≡ Some (list_of next l)
one_accepted limits s store next l e = by_refusal (refusal limits s.labels) e
  where
    by_list : (o : Option (List Point)) → accept (Some (list_of store s.labels)) (points s.samples) ≡ o → accepted s.labels store o ≡ Ok next → accept (Some (list_of store l)) (own l s) ≡ Some (list_of next l)
    by_list None is e = absurd (no_ok _ next e)
    by_list (Some ys) is e = series_accepted s store ys l is ∙ ap (λ (t : Store). Some (list_of t l)) (ok_is (with_list s.labels ys store) next e)

    by_refusal : (o : Option Verdict) → taken_unless o store s ≡ Ok next → accept (Some (list_of store l)) (own l s) ≡ Some (list_of next l)
    by_refusal (Some v) e = absurd (no_ok v next e)
    by_refusal None e = by_list (accept (Some (list_of store s.labels)) (points s.samples)) refl e

-- each list accepts the samples that the message has of its label set
pub taken_all-lists : (limits : LabelLimits) (m : WriteRequest) (store next : Store) (l : Labels) → taken_all limits (Ok store) m ≡ Ok next → accept (Some (list_of store l)) (points_in l m) ≡ Some (list_of next l)
taken_all-lists limits [] store next l e = ap (λ (s : Store). Some (list_of s l)) (ok_is store next e)
taken_all-lists limits (s ∷ ss) store next l e = by_first (taken limits store s) refl e (λ mid. taken_all-lists limits ss mid next l)
  where
    by_first : (r : Result Store Verdict) → taken limits store s ≡ r → taken_all limits r ss ≡ Ok next
        → ((mid : Store) → taken_all limits (Ok mid) ss ≡ Ok next → accept (Some (list_of mid l)) (points_in l ss) ≡ Some (list_of next l))
        → accept (Some (list_of store l)) (own l s ++ points_in l ss) ≡ Some (list_of next l)
    by_first (Err v) first e more = absurd (no_ok v next (sym (taken_all-err limits v ss) ∙ e))
    by_first (Ok mid) first e more =
        accept-append (Some (list_of store l)) (own l s) (points_in l ss) ∙ ap (λ (o : Option (List Point)). accept o (points_in l ss)) (one_accepted limits s store mid l first) ∙ more mid e

-- ---- an answer
done_or_refused : (let done : Judgement = Done in done ≡ Refused) → ⊥
done_or_refused e = cc e

-- what was acknowledged was taken
pub answers-done : (limits : LabelLimits) (m : WriteRequest) (old new : ReceiverState) → AnswersOrRefuses limits m Done old new → AnswersAs limits m Done old new
answers-done limits m old new (inl taken) = taken
answers-done limits m old new (inr (other, same)) = absurd (done_or_refused other)

-- anything else leaves the receiver as it was
pub answers-again : (limits : LabelLimits) (m : WriteRequest) (old new : ReceiverState) → AnswersOrRefuses limits m Again old new → new ≡ old
answers-again limits m old new (inl same) = same
answers-again limits m old new (inr (other, same)) = same

pub answers-refused-same : (limits : LabelLimits) (m : WriteRequest) (old new : ReceiverState) → AnswersOrRefuses limits m Refused old new → new ≡ old
answers-refused-same limits m old new (inl refused) = refused.0
answers-refused-same limits m old new (inr (is, same)) = same
