-- The head that the entries of a log say, entry by entry.
use Rattle.std.proofs.Common.{◌≡◌, ◌≢◌, ℕ, suc, ◌<◌, get_or, ℤ, ◌+◌, ◌-◌, ◌^◌, min, List, [], ◌∷◌, ◌++◌, length, map, Bool, true, false, not, ◌||◌, cond, Option, Some, None, refl, sym, ap, ◌∙◌, subst, arith, append-nil, nat_eq, eqb-true}
use Rattle.std.specs.Prelude.{is_some, IfSome, MatchOption}
use Rattle.std.proofs.lemmas.List.{length_push, length-append, get_or_append_left, take_all, take-append-le}
use Rattle.std.proofs.Math.Seq.{take-append_seam}
use Rattle.rw_types.specs.Labels.{Labels, IsLabelSet, label_fault}
use Rattle.rw_types.specs.LabelOrder.{labels_eq}
use Rattle.rw_types.specs.inner.LabelOrder.{same_if_equal}
use Rattle.rw_types.specs.Beginnings.{Begins}
use Rattle.rw_types.specs.Rising.{Rises}
use Rattle.rw_types.proofs.shared.OrderLemmas.{equal_if_same}
use Rattle.rw_types.specs.declared.entry.Entry.{Entry}
use Rattle.rw_types.specs.declared.entry.Entry.TheVariants.{Def, Sample}
use Rattle.rw_types.specs.declared.label_fault.LabelFault.{LabelFault}
use Rattle.rw_types.specs.declared.label_fault.LabelFault.TheVariants.{OutOfMemory}
use Rattle.rw_types.specs.declared.names.Names.{Names}
use Rattle.rw_types.specs.declared.names.Names.TheVariants.{Legacy, Utf8}
use Rattle.rw_wal_format.specs.Series.{labels_of, has_labels}
use Rattle.rw_wal_format.proofs.shared.SeriesRows.{labels_of-push}
use Rattle.rw_write_request.specs.Message.{TimeSeries, WriteRequest}
use Rattle.rw_head.specs.declared.verdict.Verdict.{Verdict}
use Rattle.rw_head.specs.declared.verdict.Verdict.TheVariants.{Stored, BadLabels, OverLimit}
use Rattle.rw_head.specs.Head.{State, status_of}
use Rattle.rw_head.specs.Lists.{IsEarlier, has_samples}
use Rattle.rw_head.specs.Order.{Point, is_later, holds}
use Rattle.rw_head.specs.Placed.{IsPlaced, one_sample}
use Rattle.rw_head.specs.Store.{Store, list_of, with_list, total}
use Rattle.rw_head.specs.Verdicts.{LabelLimits, is_over_limits, refusal, accepted, taken_unless, taken, judged, apply}
use Rattle.rw_head.proofs.shared.BodyLemmas.{taken_status}
use Rattle.rw_head.proofs.shared.StoreLemmas.{list_of-with_list, total-with_list}
use Rattle.rw_head.proofs.shared.StagingLemmas.{push_has}
use Rattle.rw_kept_log.specs.Additions.{without_position, samples_of_labels}
use Rattle.rw_kept_log.proofs.shared.AdditionLemmas.{samples_in-append, no_sample}
use Rattle.rw_kept_head.specs.Admitted.{MayHold, IsRefusedAt}
use Rattle.rw_kept_head.specs.inner.Restoring.{accepted_next, StandsFor, IsRestored, IsRestoring, IsRestoredOrRefused, IsSeriesOf, IsAdded, CannotFollow, AddsOne, AddsTo, Defines, AddsSample, TakesSample, IsPlaceOf, HasPlace, ArePlaced}
use Rattle.rw_kept_head.proofs.AdmittedLemmas.{begin_held}
use Rattle.rw_kept_head.proofs.KeptLemmas.{samples_begin}

one : Labels → ℕ → ℤ → TimeSeries
one l w t = record { labels = l; samples = (w, t) ∷ [] }

-- ---- the one sample of a message

other_way : (l q : Labels) (b : Bool) → labels_eq l q ≡ false → labels_eq q l ≡ b → b ≡ false
other_way l q false apart e = refl
other_way l q true apart e =
    let same : q ≡ l = same_if_equal q l e in
    let alike : labels_eq l q ≡ true = equal_if_same l q (sym same) in
    absurd cc

put_at : (l q : Labels) (b : Bool) (old : Store) (p : Point) → labels_eq l q ≡ b → list_of (with_list l (list_of old l ++ p ∷ []) old) q ≡ list_of old q ++ cond b (p ∷ []) []
put_at l q true old p e =
    let same : l ≡ q = same_if_equal l q e in
    subst (λ (x : Labels). list_of (with_list l (list_of old l ++ p ∷ []) old) x ≡ list_of old x ++ p ∷ []) same
    (list_of-with_list l (list_of old l ++ p ∷ []) old l ∙ ap (λ (b : Bool). cond b (list_of old l ++ p ∷ []) (list_of old l)) (equal_if_same l l refl))
put_at l q false old p e =
    list_of-with_list l (list_of old l ++ p ∷ []) old q
    ∙ ap (λ (b : Bool). cond b (list_of old l ++ p ∷ []) (list_of old q)) (other_way l q (labels_eq q l) e refl)
    ∙ sym (append-nil (list_of old q))

-- a list that is put in place of itself
same_total : (l : Labels) (old : Store) (xs : List Point) (p : Point) → list_of old l ≡ xs → holds p xs ≡ true → total (with_list l xs old) ≡ total old
same_total l old [] p e held = absurd cc
same_total l old (x ∷ xs) p e held = omega (arith, total-with_list l x xs old, ap length e)

-- a message that stores one sample has appended it
appended : (l q : Labels) (old : Store) (p : Point) (later held : Bool) → is_later p.0 (list_of old l) ≡ later → holds p (list_of old l) ≡ held
    → (judged old (accepted l old (cond later (Some (list_of old l ++ p ∷ [])) (cond held (Some (list_of old l)) None)))).verdict ≡ Stored 1
    → list_of (judged old (accepted l old (cond later (Some (list_of old l ++ p ∷ [])) (cond held (Some (list_of old l)) None)))).store q ≡ list_of old q ++ cond (labels_eq l q) (p ∷ []) []
appended l q old p true held rises there e = put_at l q (labels_eq l q) old p refl
appended l q old p false true rises there e =
    let none : total (with_list l (list_of old l) old) - total old ≡ 1 = cc in
    absurd (omega (arith, none, same_total l old (list_of old l) p refl there))
appended l q old p false false rises there e = absurd cc

unless : (limits : LabelLimits) (l q : Labels) (w : ℕ) (t : ℤ) (old : Store) (r : Option Verdict) → refusal limits l ≡ r → (judged old (taken_unless r old (one l w t))).verdict ≡ Stored 1
    → list_of (judged old (taken_unless r old (one l w t))).store q ≡ list_of old q ++ cond (labels_eq l q) ((t, w) ∷ []) []
unfolding one
unless limits l q w t old (Some v) is e =
    let bad = taken_status limits old (one l w t) v (ap (λ (r : Option Verdict). taken_unless r old (one l w t)) is) in
    let good : status_of v ≡ 204 = ap status_of e in
    absurd (omega (arith, bad, good))
unless limits l q w t old None is e = appended l q old (t, w) (is_later t (list_of old l)) (holds (t, w) (list_of old l)) refl refl e

pub one_added : (limits : LabelLimits) (old new : Store) (m : WriteRequest) → (apply limits old m).verdict ≡ Stored 1 → new ≡ (apply limits old m).store → IsAdded old new m
unfolding one
one_added limits old new m stored is = λ l w t e q.
    ap (λ (s : Store). list_of s q) (is ∙ ap (λ (x : WriteRequest). (apply limits old x).store) e)
    ∙ unless limits l q w t old (refusal limits l) refl (ap (λ (x : WriteRequest). (apply limits old x).verdict) (sym e) ∙ stored)

-- a sample that is later than all others is stored
later_than_all : (t : ℤ) (w : ℕ) (xs : List Point) → Rises IsEarlier (xs ++ (t, w) ∷ []) → is_later t xs ≡ true
later_than_all t w [] h = refl
later_than_all t w (x ∷ []) h = h.0.0
later_than_all t w (x ∷ y ∷ ys) h = later_than_all t w (y ∷ ys) h.1

total_push : (l : Labels) (old : Store) (xs : List Point) (p : Point) → list_of old l ≡ xs → total (with_list l (xs ++ p ∷ []) old) ≡ total old + 1
total_push l old [] p e = omega (arith, total-with_list l p [] old, ap length e)
total_push l old (x ∷ xs) p e = omega (arith, total-with_list l x (xs ++ p ∷ []) old, ap length e, length_push xs p)

stored : (l : Labels) (old : Store) (p : Point) (later held : Bool) → later ≡ true
    → (judged old (accepted l old (cond later (Some (list_of old l ++ p ∷ [])) (cond held (Some (list_of old l)) None)))).verdict ≡ Stored 1
stored l old p true held e =
    let one_more : total (with_list l (list_of old l ++ p ∷ []) old) - total old ≡ 1 = omega (arith, total_push l old (list_of old l) p refl) in
    ap Stored one_more
stored l old p false held e = absurd cc

cannot_follow : (limits : LabelLimits) (l : Labels) (w : ℕ) (t : ℤ) (old : Store) (r : Option Verdict) → refusal limits l ≡ r → (judged old (taken_unless r old (one l w t))).verdict ≢ Stored 1 → CannotFollow limits old l (t, w)
unfolding one
cannot_follow limits l w t old (Some v) is other = λ rises none. absurd (cc (is, none))
cannot_follow limits l w t old None is other = λ rises none.
    other (stored l old (t, w) (is_later t (list_of old l)) (holds (t, w) (list_of old l)) (later_than_all t w (list_of old l) rises))

one_refused : (limits : LabelLimits) (old : Store) (m : WriteRequest) → (apply limits old m).verdict ≢ Stored 1 → (l : Labels) (w : ℕ) (t : ℤ) → m ≡ record { labels = l; samples = (w, t) ∷ [] } ∷ []
    → CannotFollow limits old l (t, w)
unfolding one
one_refused limits old m other = λ l w t e.
    cannot_follow limits l w t old (refusal limits l) refl (λ is. other (ap (λ (x : WriteRequest). (apply limits old x).verdict) e ∙ is))

pub one_judged : (limits : LabelLimits) (old new : Store) (m : WriteRequest) (v : Verdict) (done : Bool) → v ≡ (apply limits old m).verdict → new ≡ (apply limits old m).store
    → (done ≡ true → v ≡ Stored 1) → (done ≡ false → v ≢ Stored 1) → AddsOne limits old new m done
one_judged limits old new m v true is store if_one if_other = one_added limits old new m (sym is ∙ if_one refl) store
one_judged limits old new m v false is store if_one if_other = one_refused limits old m (λ e. if_other refl (is ∙ e))

-- ---- entry by entry

pub defined_next : (names : Names) (taken : List Entry) (lookup later : ℕ → Option (Option TimeSeries)) (store : Store) (reference : ℕ) (labels : Labels) → Defines names lookup later reference labels
    → IsRestored names taken lookup store → IsRestored names (taken ++ Def reference labels ∷ []) later store
defined_next names taken lookup later store reference labels defining restored = record {
  known = λ r. subst (StandsFor names (later r)) (sym (labels_of-push taken (Def reference labels) r)) (defining r (labels_of taken r (length taken)) (restored.known r));
  says = λ l. restored.says l ∙ sym (no_sample taken reference labels l);
}

said : (b : Bool) (n : ℕ) (p : ℤ × ℕ) → map without_position (cond b ((n, p.0, p.1) ∷ []) []) ≡ cond b (p ∷ []) []
said true n p = refl
said false n p = refl

sampled_next : (names : Names) (taken : List Entry) (lookup later : ℕ → Option (Option TimeSeries)) (old new : Store) (reference : ℕ) (t : ℤ) (w : ℕ) → AddsSample names old new lookup later reference (t, w)
    → IsRestored names taken lookup old → IsRestored names (taken ++ Sample reference t w ∷ []) later new
sampled_next names taken lookup later old new reference t w adds restored = record {
  known = λ r. subst (StandsFor names (later r)) (sym (labels_of-push taken (Sample reference t w) r)) (adds.same r (labels_of taken r (length taken)) (restored.known r));
  says = λ l.
      adds.added l (labels_of taken reference (length taken)) (restored.known reference)
      ∙ ap (λ (ps : List Point). ps ++ cond (has_labels l (labels_of taken reference (length taken))) ((t, w) ∷ []) []) (restored.says l)
      ∙ ap (λ (ps : List Point). samples_of_labels taken l ++ ps) (sym (said (has_labels l (labels_of taken reference (length taken))) (length taken) (t, w)))
      ∙ sym (samples_in-append l taken (Sample reference t w ∷ []));
}

refused_next : (limits : LabelLimits) (taken : List Entry) (lookup : ℕ → Option (Option TimeSeries)) (store : Store) (reference : ℕ) (t : ℤ) (w : ℕ) (l : Labels) → labels_of taken reference (length taken) ≡ Some l
    → CannotFollow limits store l (t, w) → IsRestored Utf8 taken lookup store → MayHold limits (samples_of_labels (taken ++ Sample reference t w ∷ [])) → ⊥
refused_next limits taken lookup store reference t w l is cannot restored may =
    let same : samples_of_labels (taken ++ Sample reference t w ∷ []) l ≡ list_of store l ++ (t, w) ∷ [] =
    samples_in-append l taken (Sample reference t w ∷ [])
    ∙ ap (λ (ps : List Point). samples_of_labels taken l ++ ps) (said (has_labels l (labels_of taken reference (length taken))) (length taken) (t, w))
    ∙ ap (λ (o : Option (List (List ℕ × List ℕ))). samples_of_labels taken l ++ cond (has_labels l o) ((t, w) ∷ []) []) is
    ∙ ap (λ (b : Bool). samples_of_labels taken l ++ cond b ((t, w) ∷ []) []) (equal_if_same l l refl)
    ∙ ap (λ (ps : List Point). ps ++ (t, w) ∷ []) (sym (restored.says l)) in
    cannot (subst (Rises IsEarlier) same (may.rises l)) (may.within l (ap has_samples same ∙ push_has (list_of store l) (t, w)))

pub sample_taken : (limits : LabelLimits) (taken : List Entry) (lookup later : ℕ → Option (Option TimeSeries)) (old new : Store) (reference : ℕ) (t : ℤ) (w : ℕ) (done : Bool)
    → TakesSample limits old new lookup later reference (t, w) done → IsRestored Utf8 taken lookup old → IsRestoredOrRefused limits (taken ++ Sample reference t w ∷ []) later new done
sample_taken limits taken lookup later old new reference t w true takes restored = sampled_next Utf8 taken lookup later old new reference t w takes restored
sample_taken limits taken lookup later old new reference t w false takes restored = λ may.
    let found = takes (labels_of taken reference (length taken)) (restored.known reference) in
    refused_next limits taken lookup old reference t w found.0 found.1 found.2 restored may

pub nothing_yet : (names : Names) (taken : List Entry) (lookup : ℕ → Option (Option TimeSeries)) (store : Store) → taken ≡ [] → ((r : ℕ) → lookup r ≡ None) → ((l : Labels) → list_of store l ≡ [])
    → IsRestored names taken lookup store
nothing_yet names taken lookup store none unknown empty = record {
  known = λ r. subst (λ (o : Option (Option TimeSeries)). StandsFor names o (labels_of taken r (length taken))) (sym (unknown r)) (ap (λ (es : List Entry). labels_of es r (length es)) none);
  says = λ l. empty l ∙ ap (λ (es : List Entry). samples_of_labels es l) (sym none);
}

-- ---- the whole log

pub holds_nothing : (limits : LabelLimits) (lists : Labels → List Point) → ((l : Labels) → lists l ≡ []) → MayHold limits lists
holds_nothing limits lists none = record {
  rises = λ l. subst (Rises IsEarlier) (sym (none l)) tt;
  within = λ l some. let nothing : has_samples (lists l) ≡ false = ap has_samples (none l) in absurd cc;
}

-- a log that goes on after what is refused is refused
still_refused : (limits : LabelLimits) (taken : List Entry) (e : Entry) → (MayHold limits (samples_of_labels taken) → ⊥) → MayHold limits (samples_of_labels (taken ++ e ∷ [])) → ⊥
still_refused limits taken e refuses may =
    refuses (begin_held limits (samples_of_labels taken) (samples_of_labels (taken ++ e ∷ [])) (λ l. samples_begin taken (taken ++ e ∷ []) l (e ∷ [], refl)) may)

-- the first entry that is refused stays the first one
first_stays : (limits : LabelLimits) (taken : List Entry) (e : Entry) (at : ℕ) → IsRefusedAt limits taken at → IsRefusedAt limits (taken ++ e ∷ []) at
first_stays limits taken e at p = (
  p.0,
  p.1,
  record {
    within = omega (arith, p.2.within, length_push taken e);
    before = subst (λ (es : List Entry). MayHold limits (samples_of_labels es)) (sym (take-append-le p.0 taken (e ∷ []) (omega (arith, p.2.within)))) p.2.before;
    with_it = λ may. p.2.with_it (subst (λ (es : List Entry). MayHold limits (samples_of_labels es)) (take-append-le (suc p.0) taken (e ∷ []) (omega (arith, p.2.within))) may);
  },
)

-- the entry that comes next is the first one that is refused
first_now : (limits : LabelLimits) (taken : List Entry) (e : Entry) (at : ℕ) → at ≡ min (length taken) (2 ^ 64 - 1) → MayHold limits (samples_of_labels taken)
    → (MayHold limits (samples_of_labels (taken ++ e ∷ [])) → ⊥) → IsRefusedAt limits (taken ++ e ∷ []) at
first_now limits taken e at is before refuses = (
  length taken,
  is,
  record {
    within = omega (arith, length_push taken e);
    before = subst (λ (es : List Entry). MayHold limits (samples_of_labels es)) (sym (take-append_seam taken (e ∷ []))) before;
    with_it = λ may. refuses (subst (λ (es : List Entry). MayHold limits (samples_of_labels es)) (take_all (suc (length taken)) (taken ++ e ∷ []) (omega (arith, length_push taken e))) may);
  },
)

-- the samples of the log, which the store has
said_held : (limits : LabelLimits) (taken : List Entry) (store : Store) → ((l : Labels) → list_of store l ≡ samples_of_labels taken l) → MayHold limits (list_of store) → MayHold limits (samples_of_labels taken)
said_held limits taken store says held = begin_held limits (samples_of_labels taken) (list_of store) (λ l. ([], says l ∙ sym (append-nil (samples_of_labels taken l)))) held

counted_next : (n m : ℕ) → n ≡ min m (2 ^ 64 - 1) → min (n + 1) (2 ^ 64 - 1) ≡ min (m + 1) (2 ^ 64 - 1)
counted_next n m is = omega (arith, is)

pub restoring_next : (taken : List Entry) (e : Entry) (lookup later : ℕ → Option (Option TimeSeries)) (old new : State) (accepted : ℕ) (refused done : Bool) → new.limits ≡ old.limits
    → IsRestoring taken lookup old accepted refused → (IsRestored Utf8 taken lookup old.store → IsRestoredOrRefused old.limits (taken ++ e ∷ []) later new.store done)
    → (MayHold old.limits (list_of old.store) → MayHold old.limits (list_of new.store)) → IsRestoring (taken ++ e ∷ []) later new (accepted_next accepted (refused || not done)) (refused || not done)
restoring_next taken e lookup later old new accepted true done same r next held = record {
  restored = λ is. absurd cc;
  refuses = λ is. subst (λ (limits : LabelLimits). MayHold limits (samples_of_labels (taken ++ e ∷ [])) → ⊥) (sym same) (still_refused old.limits taken e (r.refuses refl));
  holds = subst (λ (limits : LabelLimits). MayHold limits (list_of new.store)) (sym same) (held r.holds);
  all = λ is. absurd cc;
  first = λ is. subst (λ (limits : LabelLimits). IsRefusedAt limits (taken ++ e ∷ []) accepted) (sym same) (first_stays old.limits taken e accepted (r.first refl));
}
restoring_next taken e lookup later old new accepted false true same r next held = record {
  restored = λ is. next (r.restored refl);
  refuses = λ is. absurd cc;
  holds = subst (λ (limits : LabelLimits). MayHold limits (list_of new.store)) (sym same) (held r.holds);
  all = λ is. counted_next accepted (length taken) (r.all refl) ∙ ap (λ (n : ℕ). min n (2 ^ 64 - 1)) (sym (length_push taken e));
  first = λ is. absurd cc;
}
restoring_next taken e lookup later old new accepted false false same r next held = record {
  restored = λ is. absurd cc;
  refuses = λ is. subst (λ (limits : LabelLimits). MayHold limits (samples_of_labels (taken ++ e ∷ [])) → ⊥) (sym same) (next (r.restored refl));
  holds = subst (λ (limits : LabelLimits). MayHold limits (list_of new.store)) (sym same) (held r.holds);
  all = λ is. absurd cc;
  first = λ is.
      subst (λ (limits : LabelLimits). IsRefusedAt limits (taken ++ e ∷ []) accepted) (sym same)
      (first_now old.limits taken e accepted (r.all refl) (said_held old.limits taken old.store (r.restored refl).says r.holds) (next (r.restored refl)));
}

-- ---- the references

-- labels with a fault are refused
pub is_faulty : (o : Option LabelFault) (f : LabelFault) → MatchOption o (f ≡ OutOfMemory) (λ fault. f ≡ fault) → f ≢ OutOfMemory → is_some o ≡ true
is_faulty None f e other = absurd (other e)
is_faulty (Some x) f e other = refl

-- what `utf8_takes_any_name` says
abbrev pub TakesLegacy : Type 0
TakesLegacy = (l : Labels) → IsLabelSet Legacy l → IsLabelSet Utf8 l

any_names : TakesLegacy → (names : Names) (l : Labels) → IsLabelSet names l → IsLabelSet Utf8 l
any_names law Legacy l set = law l set
any_names law Utf8 l set = set

not_faulty : (o : Option LabelFault) → is_some o ≡ false → o ≡ None
not_faulty None e = refl
not_faulty (Some f) e = absurd (let t : true ≡ false = e in cc)

faulty_refused : TakesLegacy → (limits : LabelLimits) (l : Labels) → is_some (label_fault Utf8 l) ≡ true → refusal limits l ≡ None → ⊥
faulty_refused law limits l bad none = by_test (is_some (label_fault limits.names l)) refl none
  where
    by_test : (b : Bool) → is_some (label_fault limits.names l) ≡ b → cond b (Some BadLabels) (cond (is_over_limits limits l) (Some OverLimit) None) ≡ None → ⊥
    by_test true is e = let f : ◌≡◌ {A = Option Verdict} (Some BadLabels) None = e in cc
    by_test false is e =
        let good : is_some (label_fault Utf8 l) ≡ false = ap is_some (any_names law limits.names l (not_faulty (label_fault limits.names l) is)) in
        cc

defined_at : (names : Names) (labels : Labels) (o : Option TimeSeries) (b : Bool) (old : Option (Option TimeSeries)) (found : Option (List (List ℕ × List ℕ))) → IsSeriesOf names labels o → StandsFor names old found
    → StandsFor names (cond b (Some o) old) (cond b (Some labels) found)
defined_at names labels None true old found of is = (labels, refl, of)
defined_at names labels (Some s) true old found of is = ap (λ (x : TimeSeries). Some x.labels) (sym of)
defined_at names labels o false old found of is = is

pub defines_by : (names : Names) (lookup later : ℕ → Option (Option TimeSeries)) (reference : ℕ) (labels : Labels) (o : Option TimeSeries) → IsSeriesOf names labels o
    → ((q : ℕ) → later q ≡ cond (nat_eq reference q) (Some o) (lookup q)) → Defines names lookup later reference labels
defines_by names lookup later reference labels o of up = λ r found is.
    subst (λ (x : Option (Option TimeSeries)). StandsFor names x (cond (nat_eq reference r) (Some labels) found)) (sym (up r)) (defined_at names labels o (nat_eq reference r) (lookup r) found of is)

-- a reference without a definition
pub adds_none : (limits : LabelLimits) (store : Store) (lookup later : ℕ → Option (Option TimeSeries)) (reference : ℕ) (sample : ℤ × ℕ) → lookup reference ≡ None → ((q : ℕ) → later q ≡ lookup q)
    → TakesSample limits store store lookup later reference sample true
adds_none limits store lookup later reference sample none same = record {
  same = λ r found is. subst (λ (o : Option (Option TimeSeries)). StandsFor Utf8 o found) (sym (same r)) is;
  added = λ l found is.
      let undefined : found ≡ None = subst (λ (o : Option (Option TimeSeries)). StandsFor Utf8 o found) none is in
      sym (append-nil (list_of store l)) ∙ ap (λ (o : Option (List (List ℕ × List ℕ))). list_of store l ++ cond (has_labels l o) (sample ∷ []) []) (sym undefined);
}

-- a reference whose labels are no label set
pub takes_none : TakesLegacy → (limits : LabelLimits) (old new : Store) (lookup later : ℕ → Option (Option TimeSeries)) (reference : ℕ) (sample : ℤ × ℕ) → lookup reference ≡ Some None
    → TakesSample limits old new lookup later reference sample false
takes_none law limits old new lookup later reference sample bad = λ found is.
    let k = subst (λ (o : Option (Option TimeSeries)). StandsFor Utf8 o found) bad is in
    (k.0, k.1, λ rises none. faulty_refused law limits k.0 k.2 none)

put_back : (names : Names) (lookup later : ℕ → Option (Option TimeSeries)) (reference r : ℕ) (s back : TimeSeries) (b : Bool) (found : Option (List (List ℕ × List ℕ))) → nat_eq reference r ≡ b
    → lookup reference ≡ Some (Some s) → back.labels ≡ s.labels → later r ≡ cond b (Some (Some back)) (lookup r) → StandsFor names (lookup r) found → StandsFor names (later r) found
put_back names lookup later reference r s back true found e there labels again is =
    let was : found ≡ Some s.labels = subst (λ (o : Option (Option TimeSeries)). StandsFor names o found) (ap lookup (sym (eqb-true reference r e)) ∙ there) is in
    subst (λ (o : Option (Option TimeSeries)). StandsFor names o found) (sym again) (was ∙ ap (λ (l : Labels). Some l) (sym labels))
put_back names lookup later reference r s back false found e there labels again is = subst (λ (o : Option (Option TimeSeries)). StandsFor names o found) (sym again) is

takes_by : (limits : LabelLimits) (old new : Store) (lookup later : ℕ → Option (Option TimeSeries)) (reference : ℕ) (sample : ℤ × ℕ) (s back : TimeSeries) (done : Bool) → lookup reference ≡ Some (Some s)
    → ((r : ℕ) (found : Option (List (List ℕ × List ℕ))) → StandsFor Utf8 (lookup r) found → StandsFor Utf8 (later r) found) → back ≡ record { labels = s.labels; samples = (sample.1, sample.0) ∷ [] }
    → AddsOne limits old new (back ∷ []) done → TakesSample limits old new lookup later reference sample done
takes_by limits old new lookup later reference sample s back true there same is adds = record {
  same = same;
  added = λ l found was.
      let named : found ≡ Some s.labels = subst (λ (o : Option (Option TimeSeries)). StandsFor Utf8 o found) there was in
      adds s.labels sample.1 sample.0 (ap (λ (x : TimeSeries). x ∷ []) is) l
      ∙ ap (λ (o : Option (List (List ℕ × List ℕ))). list_of old l ++ cond (has_labels l o) (sample ∷ []) []) (sym named);
}
takes_by limits old new lookup later reference sample s back false there same is adds = λ found was.
    let named : found ≡ Some s.labels = subst (λ (o : Option (Option TimeSeries)). StandsFor Utf8 o found) there was in
    (s.labels, named, adds s.labels sample.1 sample.0 (ap (λ (x : TimeSeries). x ∷ []) is))

-- what is noted of a reference was given a sample
pub takes_to : TakesLegacy → (limits : LabelLimits) (old new : Store) (lookup later : ℕ → Option (Option TimeSeries)) (reference : ℕ) (sample : ℤ × ℕ) (known after : Option TimeSeries) (done : Bool)
    → lookup reference ≡ Some known → ((q : ℕ) → later q ≡ cond (nat_eq reference q) (Some after) (lookup q)) → AddsTo limits old new known after sample done
    → TakesSample limits old new lookup later reference sample done
takes_to law limits old new lookup later reference sample None after done there again adds =
    subst (λ (b : Bool). TakesSample limits old new lookup later reference sample b) (sym adds.1) (takes_none law limits old new lookup later reference sample there)
takes_to law limits old new lookup later reference sample (Some s) after done there again adds =
    let back : TimeSeries = record { labels = s.labels; samples = (sample.1, sample.0) ∷ [] } in
    takes_by limits old new lookup later reference sample s back done there
    (λ r found was. put_back Utf8 lookup later reference r s back (nat_eq reference r) found refl there refl (again r ∙ ap (λ (o : Option TimeSeries). cond (nat_eq reference r) (Some o) (lookup r)) adds.0) was) refl adds.1

-- ---- the places in the head

placed_begins : (n : ℕ) (l : Labels) (old new : List Labels) → Begins old new → IsPlaced n l old → IsPlaced n l new
placed_begins n l old new b is = (
  omega (arith, is.0, ap length b.1, length-append old b.0),
  ap (λ (ns : List Labels). get_or ns n []) b.1 ∙ get_or_append_left old b.0 [] n is.0 ∙ is.1,
)

has_place_still : (o : Option (Option ℕ)) (found : Option (Option TimeSeries)) (old new : List Labels) → Begins old new → HasPlace o found old → HasPlace o found new
has_place_still None found old new b is = tt
has_place_still (Some None) found old new b is = tt
has_place_still (Some (Some n)) None old new b is = is
has_place_still (Some (Some n)) (Some None) old new b is = is
has_place_still (Some (Some n)) (Some (Some s)) old new b is = placed_begins n s.labels old new b is

-- label sets keep their places
pub placed_still : (places : ℕ → Option (Option ℕ)) (lookup : ℕ → Option (Option TimeSeries)) (old new : List Labels) → Begins old new → ArePlaced places lookup old → ArePlaced places lookup new
placed_still places lookup old new b h = λ r. has_place_still (places r) (lookup r) old new b (h r)

-- something is noted of a reference, and its place
pub placed_next : (places placed : ℕ → Option (Option ℕ)) (lookup later : ℕ → Option (Option TimeSeries)) (reference : ℕ) (p : Option ℕ) (o : Option TimeSeries) (old new : List Labels) → Begins old new
    → ((q : ℕ) → placed q ≡ cond (nat_eq reference q) (Some p) (places q)) → ((q : ℕ) → later q ≡ cond (nat_eq reference q) (Some o) (lookup q)) → HasPlace (Some p) (Some o) new
    → ArePlaced places lookup old → ArePlaced placed later new
placed_next places placed lookup later reference p o old new b up again is h = λ r.
    subst (λ (x : Option (Option ℕ)). HasPlace x (later r) new) (sym (up r))
    (subst (λ (x : Option (Option TimeSeries)). HasPlace (cond (nat_eq reference r) (Some p) (places r)) x new) (sym (again r)) (by_test r (nat_eq reference r)))
  where
    by_test : (r : ℕ) (same : Bool) → HasPlace (cond same (Some p) (places r)) (cond same (Some o) (lookup r)) new
    by_test r true = is
    by_test r false = has_place_still (places r) (lookup r) old new b (h r)

pub place_said : (o : Option ℕ) (s : TimeSeries) (names : List Labels) → IfSome o (λ n. IsPlaced n s.labels names) → HasPlace (Some o) (Some (Some s)) names
place_said None s names is = tt
place_said (Some n) s names is = is

pub place_of_noted : (places : ℕ → Option (Option ℕ)) (lookup : ℕ → Option (Option TimeSeries)) (names : List Labels) (r n : ℕ) → ArePlaced places lookup names → places r ≡ Some (Some n) → IsPlaceOf n (lookup r) names
place_of_noted places lookup names r n h e = subst (λ (x : Option (Option ℕ)). HasPlace x (lookup r) names) e (h r)

pub place_within : (n : ℕ) (o : Option (Option TimeSeries)) (names : List Labels) → IsPlaceOf n o names → n < length names
place_within n None names is = absurd is
place_within n (Some None) names is = absurd is
place_within n (Some (Some s)) names is = is.0

-- a sample of the label set at a place
pub takes_at : (limits : LabelLimits) (old new : Store) (lookup : ℕ → Option (Option TimeSeries)) (reference n : ℕ) (sample : ℤ × ℕ) (names : List Labels) (o : Option (Option TimeSeries)) (done : Bool)
    → lookup reference ≡ o → IsPlaceOf n o names → AddsOne limits old new (one_sample (get_or names n []) sample.0 sample.1) done → TakesSample limits old new lookup lookup reference sample done
takes_at limits old new lookup reference n sample names None done there is adds = absurd is
takes_at limits old new lookup reference n sample names (Some None) done there is adds = absurd is
takes_at limits old new lookup reference n sample names (Some (Some s)) done there is adds =
    takes_by limits old new lookup lookup reference sample s (record { labels = s.labels; samples = (sample.1, sample.0) ∷ [] }) done there (λ r found was. was) refl
    (subst (λ (l : Labels). AddsOne limits old new (one_sample l sample.0 sample.1) done) is.1 adds)
