-- What a head can take of a message it takes whole.
use Rattle.std.proofs.Common.{◌≡◌, ◌++◌, List, [], ◌∷◌, length, drop, get_or, ℕ, ◌+◌, ◌<◌, suc, Option, Some, None, Bool, true, false, cond, is_some, Result, Ok, Err, refl, sym, ◌∙◌, ap, subst, arith, append_assoc}
use Rattle.std.proofs.Math.Seq.{drop-cons}
use Rattle.rw_types.specs.Labels.{Labels}
use Rattle.rw_write_request.specs.Message.{Sample, TimeSeries, WriteRequest}
use Rattle.rw_head.specs.declared.verdict.Verdict.{Verdict}
use Rattle.rw_head.specs.Order.{Point, points, accept}
use Rattle.rw_head.specs.Partial.{one_of, held_after, if_taken, taken_samples, held_with, takeable_series, takeable, store_one_by_one, store_by_samples}
use Rattle.rw_head.specs.Store.{Store, list_of, with_list, HasNoEmptyList}
use Rattle.rw_head.specs.Verdicts.{LabelLimits, refusal, accepted, taken_unless, taken, taken_all, judged, apply}
use Rattle.rw_head.specs.inner.Partial.{IsRefusedUnless, IsJudged}
use Rattle.rw_head.specs.inner.Growth.{HoldsNoneRefused}
use Rattle.rw_head.proofs.PartLemmas.{taken-more, taken-bad}
use Rattle.rw_head.proofs.shared.GrowthLemmas.{taken_within}
use Rattle.rw_head.proofs.shared.StoreLemmas.{with_list-same, HasNoEmptyList-with_list}
use Rattle.rw_head.proofs.shared.VerdictLemmas.{taken_all-err}

-- ---- no store holds an empty list
accepted_filled : (l : Labels) (s next : Store) (o : Option (List Point)) → HasNoEmptyList s → accepted l s o ≡ Ok next → HasNoEmptyList next
accepted_filled l s next None h e = absurd cc
accepted_filled l s next (Some xs) h e =
    let same : with_list l xs s ≡ next = cc in
    subst HasNoEmptyList same (HasNoEmptyList-with_list l xs s h)

unless_filled : (s next : Store) (x : TimeSeries) (o : Option Verdict) → HasNoEmptyList s → taken_unless o s x ≡ Ok next → HasNoEmptyList next
unless_filled s next x (Some v) h e = absurd cc
unless_filled s next x None h e = accepted_filled x.labels s next (accept (Some (list_of s x.labels)) (points x.samples)) h e

taken_filled : (limits : LabelLimits) (s next : Store) (x : TimeSeries) → HasNoEmptyList s → taken limits s x ≡ Ok next → HasNoEmptyList next
taken_filled limits s next x h e = unless_filled s next x (refusal limits x.labels) h e

-- ---- one series
-- of labels that are refused nothing is taken
refused_with : (limits : LabelLimits) (store : Store) (l : Labels) (ss : List Sample) (v : Verdict) → refusal limits l ≡ Some v → held_with limits store l ss ≡ store
refused_with limits store l [] v e = refl
refused_with limits store l (s ∷ ss) v e =
    ap (λ (o : Option Verdict). held_with limits (held_after store (taken_unless o store (one_of l s))) l ss) e ∙ refused_with limits store l ss v e

empty_taken : (limits : LabelLimits) (store : Store) (l : Labels) → HasNoEmptyList store → refusal limits l ≡ None → taken limits store (record { labels = l; samples = [] }) ≡ Ok store
empty_taken limits store l h none = ap (λ (o : Option Verdict). taken_unless o store (record { labels = l; samples = [] })) none ∙ ap (λ (s : Store). Ok s) (with_list-same l store h)

-- the samples that are taken one after the other are taken at once
series_taken : (limits : LabelLimits) (l : Labels) (ss : List Sample) (store : Store) → HasNoEmptyList store → refusal limits l ≡ None
    → taken limits store (record { labels = l; samples = taken_samples limits store l ss }) ≡ Ok (held_with limits store l ss)
series_taken limits l [] store h none = empty_taken limits store l h none
series_taken limits l (s ∷ ss) store h none = by_case (taken limits store (one_of l s)) refl (λ t k. series_taken limits l ss t k none)
  where
    by_case : (r : Result Store Verdict) → taken limits store (one_of l s) ≡ r
        → ((t : Store) → HasNoEmptyList t → taken limits t (record { labels = l; samples = taken_samples limits t l ss }) ≡ Ok (held_with limits t l ss))
        → taken limits store (record { labels = l; samples = if_taken r s ++ taken_samples limits (held_after store r) l ss }) ≡ Ok (held_with limits (held_after store r) l ss)
    by_case (Ok next) e further = taken-more limits l (s ∷ []) (taken_samples limits next l ss) store next e ∙ further next (taken_filled limits store next (one_of l s) h e)
    by_case (Err v) e further = further store h

-- a series that is taken loses nothing
series_whole : (limits : LabelLimits) (l : Labels) (ss : List Sample) (store next : Store) → taken limits store (record { labels = l; samples = ss }) ≡ Ok next → taken_samples limits store l ss ≡ ss
series_whole limits l [] store next good = refl
series_whole limits l (s ∷ ss) store next good = by_case (taken limits store (one_of l s)) refl (λ mid. series_whole limits l ss mid next)
  where
    by_case : (r : Result Store Verdict) → taken limits store (one_of l s) ≡ r
        → ((mid : Store) → taken limits mid (record { labels = l; samples = ss }) ≡ Ok next → taken_samples limits mid l ss ≡ ss)
        → if_taken r s ++ taken_samples limits (held_after store r) l ss ≡ s ∷ ss
    by_case (Ok mid) e further = ap (λ (rest : List Sample). s ∷ rest) (further mid (sym (taken-more limits l (s ∷ []) ss store mid e) ∙ good))
    by_case (Err v) e further =
        let bad : taken limits store (record { labels = l; samples = s ∷ ss }) ≡ Err v = taken-bad limits l (s ∷ []) ss store v e in
        absurd (cc (bad, good))

-- ---- one sample after the other
after_one : (store : Store) (r : Result Store Verdict) → (judged store r).store ≡ held_after store r
after_one store (Ok next) = refl
after_one store (Err v) = refl

one_by_one : (limits : LabelLimits) (store : Store) (l : Labels) (ss : List Sample) → store_one_by_one limits store l ss ≡ held_with limits store l ss
one_by_one limits store l [] = refl
one_by_one limits store l (s ∷ ss) =
    ap (λ (t : Store). store_one_by_one limits t l ss) (after_one store (taken limits store (one_of l s))) ∙ one_by_one limits (held_after store (taken limits store (one_of l s))) l ss

-- ---- a message
pub all_taken : (limits : LabelLimits) (store : Store) (m : WriteRequest) → HasNoEmptyList store → taken_all limits (Ok store) (takeable limits store m) ≡ Ok (store_by_samples limits store m)
all_taken limits store [] h = refl
all_taken limits store (s ∷ ss) h = by_case (refusal limits s.labels) refl (λ t. all_taken limits t ss)
  where
    held : Store
    held = held_with limits store s.labels s.samples

    part : TimeSeries
    part = record { labels = s.labels; samples = taken_samples limits store s.labels s.samples }

    singly : store_by_samples limits held ss ≡ store_by_samples limits (store_one_by_one limits store s.labels s.samples) ss
    singly = ap (λ (t : Store). store_by_samples limits t ss) (sym (one_by_one limits store s.labels s.samples))

    by_case : (o : Option Verdict) → refusal limits s.labels ≡ o
        → ((t : Store) → HasNoEmptyList t → taken_all limits (Ok t) (takeable limits t ss) ≡ Ok (store_by_samples limits t ss))
        → taken_all limits (Ok store) (cond (is_some o) [] (part ∷ []) ++ takeable limits held ss) ≡ Ok (store_by_samples limits (store_one_by_one limits store s.labels s.samples) ss)
    by_case (Some v) e further =
        let same : held ≡ store = refused_with limits store s.labels s.samples v e in
        ap (λ (t : Store). taken_all limits (Ok store) (takeable limits t ss)) same ∙ further store h
        ∙ ap (λ (t : Store). Ok (store_by_samples limits t ss)) (sym same) ∙ ap (λ (t : Store). Ok t) singly
    by_case None e further =
        let good = series_taken limits s.labels s.samples store h e in
        ap (λ (r : Result Store Verdict). taken_all limits r (takeable limits held ss)) good ∙ further held (taken_filled limits store held part h good) ∙ ap (λ (t : Store). Ok t) singly

-- a message that is taken loses nothing
pub all_whole : (limits : LabelLimits) (store next : Store) (m : WriteRequest) → HasNoEmptyList store → taken_all limits (Ok store) m ≡ Ok next → takeable limits store m ≡ m
all_whole limits store next [] h good = refl
all_whole limits store next (s ∷ ss) h good = by_series (taken limits store s) refl (λ mid. all_whole limits mid next ss)
  where
    held : Store
    held = held_with limits store s.labels s.samples

    part : TimeSeries
    part = record { labels = s.labels; samples = taken_samples limits store s.labels s.samples }

    by_labels : (mid : Store) → taken limits store s ≡ Ok mid → (o : Option Verdict) → refusal limits s.labels ≡ o → takeable limits mid ss ≡ ss → cond (is_some o) [] (part ∷ []) ++ takeable limits held ss ≡ s ∷ ss
    by_labels mid e (Some v) r rest = let bad : taken limits store s ≡ Err v = ap (λ (o : Option Verdict). taken_unless o store s) r in absurd (cc (bad, e))
    by_labels mid e None r rest =
        let same : part ≡ s = ap (λ (xs : List Sample). record { labels = s.labels; samples = xs }) (series_whole limits s.labels s.samples store mid e) in
        let after : Ok held ≡ Ok mid = sym (series_taken limits s.labels s.samples store h r) ∙ ap (taken limits store) same ∙ e in
        let there : held ≡ mid = cc after in
        ap (λ (x : TimeSeries). x ∷ takeable limits held ss) same ∙ ap (λ (t : Store). s ∷ takeable limits t ss) there ∙ ap (λ (xs : WriteRequest). s ∷ xs) rest

    by_series : (q : Result Store Verdict) → taken limits store s ≡ q
        → ((mid : Store) → HasNoEmptyList mid → taken_all limits (Ok mid) ss ≡ Ok next → takeable limits mid ss ≡ ss)
        → takeable limits store (s ∷ ss) ≡ s ∷ ss
    by_series (Ok mid) e further =
        by_labels mid e (refusal limits s.labels) refl (further mid (taken_filled limits store mid s h e) (ap (λ (q : Result Store Verdict). taken_all limits q ss) (sym e) ∙ good))
    by_series (Err v) e further =
        let bad : taken_all limits (Ok store) (s ∷ ss) ≡ Err v = ap (λ (q : Result Store Verdict). taken_all limits q ss) e ∙ taken_all-err limits v ss in
        absurd (cc (bad, good))

pub only_whole : (limits : LabelLimits) (store : Store) (m : WriteRequest) → HasNoEmptyList store → takeable limits store m ≡ m → taken_all limits (Ok store) m ≡ Ok (store_by_samples limits store m)
only_whole limits store m h e = ap (taken_all limits (Ok store)) (sym e) ∙ all_taken limits store m h

-- ---- loops
-- the next sample, and what is taken after it
pub next_taken : (limits : LabelLimits) (l : Labels) (ss : List Sample) (i : ℕ) (s : Sample) (store : Store) → i < length ss → s ≡ get_or ss i s
    → taken_samples limits store l (drop i ss) ≡ if_taken (taken limits store (one_of l s)) s ++ taken_samples limits (held_after store (taken limits store (one_of l s))) l (drop (i + 1) ss)
next_taken limits l ss i s store h here =
    let one : i + 1 ≡ suc i = omega arith in
    ap (taken_samples limits store l) (drop-cons ss i s h)
    ∙ ap (λ (x : Sample). if_taken (taken limits store (one_of l x)) x ++ taken_samples limits (held_after store (taken limits store (one_of l x))) l (drop (suc i) ss)) (sym here)
    ∙ ap (λ k. if_taken (taken limits store (one_of l s)) s ++ taken_samples limits (held_after store (taken limits store (one_of l s))) l (drop k ss)) (sym one)

pub next_held : (limits : LabelLimits) (l : Labels) (ss : List Sample) (i : ℕ) (s : Sample) (store : Store) → i < length ss → s ≡ get_or ss i s
    → held_with limits store l (drop i ss) ≡ held_with limits (held_after store (taken limits store (one_of l s))) l (drop (i + 1) ss)
next_held limits l ss i s store h here =
    let one : i + 1 ≡ suc i = omega arith in
    ap (held_with limits store l) (drop-cons ss i s h)
    ∙ ap (λ (x : Sample). held_with limits (held_after store (taken limits store (one_of l x))) l (drop (suc i) ss)) (sym here)
    ∙ ap (λ k. held_with limits (held_after store (taken limits store (one_of l s))) l (drop k ss)) (sym one)

-- what a sample was judged, in the words of the definitions
pub was_judged : (store next : Store) (r : Result Store Verdict) (s : Sample) (b : Bool) → IsJudged b store r next → (if_taken r s ≡ cond b (s ∷ []) []) × (held_after store r ≡ next)
was_judged store next r s true h = (ap (λ (q : Result Store Verdict). if_taken q s) h, ap (held_after store) h)
was_judged store next r s false h = (ap (λ (q : Result Store Verdict). if_taken q s) h.1, ap (held_after store) h.1 ∙ sym h.2)

pub judged_within : (limits : LabelLimits) (x : TimeSeries) (store next : Store) (b : Bool) → HoldsNoneRefused limits store → IsJudged b store (taken limits store x) next → HoldsNoneRefused limits next
judged_within limits x store next true h e = taken_within limits x store next h e
judged_within limits x store next false h e = subst (HoldsNoneRefused limits) (sym e.2) h

-- a series whose labels are refused, and one whose labels are taken
pub labels_refused : (limits : LabelLimits) (store : Store) (s : TimeSeries) (b : Bool) → b ≡ false → IsRefusedUnless b (refusal limits s.labels)
    → (takeable_series limits store s ≡ []) × (held_with limits store s.labels s.samples ≡ store)
labels_refused limits store s true e h = absurd cc
labels_refused limits store s false e h = (
  ap (λ (q : Option Verdict). cond (is_some q) [] (record { labels = s.labels; samples = taken_samples limits store s.labels s.samples } ∷ [])) h.1,
  refused_with limits store s.labels s.samples h.0 h.1,
)

pub labels_fine : (limits : LabelLimits) (store : Store) (s : TimeSeries) (b : Bool) → b ≡ true → IsRefusedUnless b (refusal limits s.labels)
    → takeable_series limits store s ≡ record { labels = s.labels; samples = taken_samples limits store s.labels s.samples } ∷ []
labels_fine limits store s true e h = ap (λ (q : Option Verdict). cond (is_some q) [] (record { labels = s.labels; samples = taken_samples limits store s.labels s.samples } ∷ [])) h
labels_fine limits store s false e h = absurd cc

-- one sample more
pub step_taken : (limits : LabelLimits) (l : Labels) (ss : List Sample) (i : ℕ) (s : Sample) (store next : Store) (b : Bool) (before into : List Sample) → i < length ss → s ≡ get_or ss i s
    → IsJudged b store (taken limits store (one_of l s)) next → into ≡ before ++ cond b (s ∷ []) []
    → before ++ taken_samples limits store l (drop i ss) ≡ into ++ taken_samples limits next l (drop (i + 1) ss)
step_taken limits l ss i s store next b before into h here was e =
    let j = was_judged store next (taken limits store (one_of l s)) s b was in
    let rest : List Sample = taken_samples limits next l (drop (i + 1) ss) in
    ap (λ xs. before ++ xs) (next_taken limits l ss i s store h here)
    ∙ ap (λ (t : Store). before ++ (if_taken (taken limits store (one_of l s)) s ++ taken_samples limits t l (drop (i + 1) ss))) j.1
    ∙ ap (λ (xs : List Sample). before ++ (xs ++ rest)) j.0
    ∙ sym (append_assoc before (cond b (s ∷ []) []) rest) ∙ ap (λ (xs : List Sample). xs ++ rest) (sym e)

pub step_held : (limits : LabelLimits) (l : Labels) (ss : List Sample) (i : ℕ) (s : Sample) (store next : Store) (b : Bool) → i < length ss → s ≡ get_or ss i s
    → IsJudged b store (taken limits store (one_of l s)) next → held_with limits store l (drop i ss) ≡ held_with limits next l (drop (i + 1) ss)
step_held limits l ss i s store next b h here was =
    next_held limits l ss i s store h here ∙ ap (λ (t : Store). held_with limits t l (drop (i + 1) ss)) (was_judged store next (taken limits store (one_of l s)) s b was).1
