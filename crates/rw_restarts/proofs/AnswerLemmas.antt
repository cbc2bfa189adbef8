-- What a head did, by the status that it answered.
use Rattle.std.proofs.Common.{◌≡◌, ◌≢◌, ◌⊎◌, inl, inr, nat_lt, Bool, true, false, cond, is_some, List, [], ◌∷◌, Option, Some, None, Result, Ok, Err, refl, sym, ap, ◌∙◌, arith}
use Rattle.rw_types.specs.Labels.{label_fault}
use Rattle.rw_write_request.specs.Message.{TimeSeries, WriteRequest}
use Rattle.rw_head.specs.declared.verdict.Verdict.{Verdict}
use Rattle.rw_head.specs.declared.verdict.Verdict.TheVariants.{BadLabels, OverLimit}
use Rattle.rw_head.specs.Head.{State, status_of, answer_to}
use Rattle.rw_head.specs.Order.{Point, points, accept}
use Rattle.rw_head.specs.Store.{Store, list_of}
use Rattle.rw_head.specs.Verdicts.{LabelLimits, is_over_limits, accepted, taken, taken_unless, taken_all, judged}

-- ---- a verdict that refuses is 400
abbrev IsRefused : Result Store Verdict → Type 0
IsRefused (Ok store) = Unit {0}
IsRefused (Err v) = status_of v ≡ 400

one_refused : (over bad : Bool) (store : Store) (s : TimeSeries) → IsRefused (taken_unless (cond bad (Some BadLabels) (cond over (Some OverLimit) None)) store s)
one_refused over true store s = refl
one_refused true false store s = refl
one_refused false false store s = by_list (accept (Some (list_of store s.labels)) (points s.samples))
  where
    by_list : (p : Option (List Point)) → IsRefused (accepted s.labels store p)
    by_list None = refl
    by_list (Some ys) = tt

all_refused : (limits : LabelLimits) (m : WriteRequest) (r : Result Store Verdict) → IsRefused r → IsRefused (taken_all limits r m)
all_refused limits [] r h = h
all_refused limits (s ∷ ss) (Err v) h = all_refused limits ss (Err v) h
all_refused limits (s ∷ ss) (Ok store) h = all_refused limits ss (taken limits store s) (one_refused (is_over_limits limits s.labels) (is_some (label_fault limits.names s.labels)) store s)

-- ---- an answer
-- the status and the head of an answer, by whether the head is busy
busy_status : (h : State) (m : WriteRequest) → nat_lt 0 h.busy ≡ true → (answer_to h (Ok m)).status ≡ 429
busy_status h m e = rw e refl

busy_store : (h : State) (m : WriteRequest) → nat_lt 0 h.busy ≡ true → (answer_to h (Ok m)).head.store ≡ h.store
busy_store h m e = rw e refl

free_status : (h : State) (m : WriteRequest) → nat_lt 0 h.busy ≡ false → (answer_to h (Ok m)).status ≡ status_of (judged h.store (taken_all h.limits (Ok h.store) m)).verdict
free_status h m e = rw e refl

free_store : (h : State) (m : WriteRequest) → nat_lt 0 h.busy ≡ false → (answer_to h (Ok m)).head.store ≡ (judged h.store (taken_all h.limits (Ok h.store) m)).store
free_store h m e = rw e refl

by_result : (store : Store) (r : Result Store Verdict) → IsRefused r → status_of (judged store r).verdict ≡ 204 → r ≡ Ok (judged store r).store
by_result store (Ok next) h e = refl
by_result store (Err v) h e = absurd (omega (arith, h, e))

by_refusal : (store : Store) (r : Result Store Verdict) → status_of (judged store r).verdict ≡ 400 → (v : Verdict) × (r ≡ Err v)
by_refusal store (Ok next) e = absurd (omega (arith, e))
by_refusal store (Err v) e = (v, refl)

by_keeping : (store : Store) (r : Result Store Verdict) → status_of (judged store r).verdict ≢ 204 → (judged store r).store ≡ store
by_keeping store (Ok next) other = absurd (other refl)
by_keeping store (Err v) other = refl

pub answers-taken : (h : State) (m : WriteRequest) → (answer_to h (Ok m)).status ≡ 204 → taken_all h.limits (Ok h.store) m ≡ Ok (answer_to h (Ok m)).head.store
answers-taken h m status = by_busy (nat_lt 0 h.busy) refl
  where
    by_busy : (b : Bool) → nat_lt 0 h.busy ≡ b → taken_all h.limits (Ok h.store) m ≡ Ok (answer_to h (Ok m)).head.store
    by_busy true e = absurd (omega (arith, busy_status h m e, status))
    by_busy false e = by_result h.store (taken_all h.limits (Ok h.store) m) (all_refused h.limits m (Ok h.store) tt) (sym (free_status h m e) ∙ status) ∙ ap (λ (s : Store). Ok s) (sym (free_store h m e))

pub answers-refused : (h : State) (m : WriteRequest) → (answer_to h (Ok m)).status ≡ 400 → (v : Verdict) × (taken_all h.limits (Ok h.store) m ≡ Err v)
answers-refused h m status = by_busy (nat_lt 0 h.busy) refl
  where
    by_busy : (b : Bool) → nat_lt 0 h.busy ≡ b → (v : Verdict) × (taken_all h.limits (Ok h.store) m ≡ Err v)
    by_busy true e = absurd (omega (arith, busy_status h m e, status))
    by_busy false e = by_refusal h.store (taken_all h.limits (Ok h.store) m) (sym (free_status h m e) ∙ status)

pub answers-kept : (h : State) (m : WriteRequest) → (answer_to h (Ok m)).status ≢ 204 → (answer_to h (Ok m)).head.store ≡ h.store
answers-kept h m other = by_busy (nat_lt 0 h.busy) refl
  where
    by_busy : (b : Bool) → nat_lt 0 h.busy ≡ b → (answer_to h (Ok m)).head.store ≡ h.store
    by_busy true e = busy_store h m e
    by_busy false e = free_store h m e ∙ by_keeping h.store (taken_all h.limits (Ok h.store) m) (λ s. other (free_status h m e ∙ s))

by_verdict : (store : Store) (r : Result Store Verdict) → IsRefused r → (status_of (judged store r).verdict ≡ 204) ⊎ (status_of (judged store r).verdict ≡ 400)
by_verdict store (Ok next) h = inl refl
by_verdict store (Err v) h = inr h

-- a head without a journal answers 204, 400 or 429
pub answers-known : (h : State) (m : WriteRequest) → ((answer_to h (Ok m)).status ≡ 204) ⊎ (((answer_to h (Ok m)).status ≡ 400) ⊎ ((answer_to h (Ok m)).status ≡ 429))
answers-known h m = by_busy (nat_lt 0 h.busy) refl
  where
    by_busy : (b : Bool) → nat_lt 0 h.busy ≡ b → ((answer_to h (Ok m)).status ≡ 204) ⊎ (((answer_to h (Ok m)).status ≡ 400) ⊎ ((answer_to h (Ok m)).status ≡ 429))
    by_busy true e = inr (inr (busy_status h m e))
    by_busy false e = elim (by_verdict h.store (taken_all h.limits (Ok h.store) m) (all_refused h.limits m (Ok h.store) tt)) [
      | inl taken ↦ inl (free_status h m e ∙ taken)
      | inr refused ↦ inr (inl (free_status h m e ∙ refused))
    ]
