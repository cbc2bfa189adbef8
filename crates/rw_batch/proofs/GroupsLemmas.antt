-- The series of a message that grows, and their numbers.
use Rattle.std.proofs.Common.{◌≡◌, ℕ, ◌+◌, ◌<◌, zero, suc, List, [], ◌∷◌, ◌++◌, length, set, get_or, nat_eq, eqb-true, eq-eqb, Bool, true, false, cond, refl, sym, ◌∙◌, ap, subst, Option, Some, None, slice_get, arith}
use Rattle.std.specs.Prelude.{IfSome}
use Rattle.std.specs.List.{IsDistinct, list_any, position, AllByRecursion}
use Rattle.std.proofs.lemmas.Bool.{both_ways, or_parts}
use Rattle.std.proofs.lemmas.List.{map-append, length-set, length_push}
use Rattle.std.proofs.lemmas.List.Quantifiers.{position-Some}
use Rattle.std.proofs.lemmas.Map.Keys.{IsDistinct-head, IsDistinct-tail, IsDistinct-push, any_passes_from_place}
use Rattle.std.proofs.lemmas.Option.{slice_get-get_or}
use Rattle.rw_types.specs.Labels.{Labels}
use Rattle.rw_types.specs.LabelOrder.{labels_eq}
use Rattle.rw_types.proofs.shared.OrderLemmas.{same_if_equal}
use Rattle.rw_write_request.specs.Message.{Sample, TimeSeries, WriteRequest}
use Rattle.rw_batch.specs.Grouping.{labels_of_series, with_sample}
use Rattle.rw_batch.specs.Groups.{Groups, StandsFor, with_number}
use Rattle.rw_batch.proofs.shared.LabelLemmas.{eq-self, eq-flip, labels_eq-equivalence}
use Rattle.rw_batch.proofs.shared.MessageLemmas.{with_sample-same, with_sample-other}

pub nothing_grouped : (ns : List ℕ) (gs : WriteRequest) → ns ≡ [] → gs ≡ [] → (length ns ≡ length gs) × IsDistinct labels_eq (labels_of_series gs)
unfolding IsDistinct
nothing_grouped ns gs e f =
    (ap length e ∙ ap length (sym f), let P : WriteRequest → Type 0 = λ x. IsDistinct labels_eq (labels_of_series x) in subst P (sym f) tt)

-- a series that is changed and keeps its labels
pub labels_of-set : (gs : WriteRequest) (i : ℕ) (old new : TimeSeries) → i < length gs → old ≡ get_or gs i old → new.labels ≡ old.labels → labels_of_series (set gs i new) ≡ labels_of_series gs
labels_of-set [] i old new lt e f = refl
labels_of-set (g ∷ gs) zero old new lt e f = ap (λ l. l ∷ labels_of_series gs) (f ∙ ap (λ s. s.labels) e)
labels_of-set (g ∷ gs) (suc i) old new lt e f = let lt' : i < length gs = omega arith in ap (λ ls. g.labels ∷ ls) (labels_of-set gs i old new lt' e f)

pub still_grouped : (ns : List ℕ) (gs : WriteRequest) (i : ℕ) (old new : TimeSeries) → i < length gs → old ≡ get_or gs i old → new.labels ≡ old.labels
    → (length ns ≡ length gs) × IsDistinct labels_eq (labels_of_series gs) → (length ns ≡ length (set gs i new)) × IsDistinct labels_eq (labels_of_series (set gs i new))
still_grouped ns gs i old new lt e f h =
    (h.0 ∙ sym (length-set gs i new), subst (IsDistinct labels_eq) (sym (labels_of-set gs i old new lt e f)) h.1)

-- labels that differ from the first are at no place after it
apart_from_first : (l m : Labels) (ls : List Labels) (i : ℕ) → AllByRecursion (λ x. labels_eq m x ≡ false) ls → slice_get ls i ≡ Some l → labels_eq l m ≡ false
apart_from_first l m [] i h e = absurd cc
apart_from_first l m (k ∷ ls) zero h e = let same : k ≡ l = cc in eq-flip l m ∙ ap (labels_eq m) (sym same) ∙ h.0
apart_from_first l m (k ∷ ls) (suc i) h e = apart_from_first l m ls i h.1 e

-- a sample at the end of the series at the place of its labels
pub with_sample-at : (gs : WriteRequest) (i : ℕ) (l : Labels) (s : Sample) (old : TimeSeries) → IsDistinct labels_eq (labels_of_series gs) → slice_get (labels_of_series gs) i ≡ Some l
    → old ≡ get_or gs i old → set gs i (record { labels = old.labels; samples = old.samples ++ s ∷ [] }) ≡ with_sample l s gs
with_sample-at [] i l s old d e f = absurd cc
with_sample-at (g ∷ gs) zero l s old d e f =
    let same : g.labels ≡ l = cc in
    ap (λ (o : TimeSeries). record { labels = o.labels; samples = o.samples ++ s ∷ [] } ∷ gs) f
    ∙ sym (with_sample-same l s g gs (ap (labels_eq l) same ∙ eq-self l))
with_sample-at (g ∷ gs) (suc i) l s old d e f =
    ap (λ r. g ∷ r) (with_sample-at gs i l s old (IsDistinct-tail labels_eq g.labels (labels_of_series gs) d) e f)
    ∙ sym (with_sample-other l s g gs (apart_from_first l g.labels (labels_of_series gs) i (IsDistinct-head labels_eq g.labels (labels_of_series gs) d) e))

-- a number that is found is there
found_at : (n : ℕ) (ns : List ℕ) (i : ℕ) → Some i ≡ position (nat_eq n) ns → slice_get ns i ≡ Some n
found_at n ns i e =
    let found = position-Some (nat_eq n) ns i 0 (sym e) in
    slice_get-get_or ns i 0 found.0 ∙ ap Some (sym (eqb-true n (get_or ns i 0) found.1))

pub found_in : (n : ℕ) (ns : List ℕ) (gs : WriteRequest) (g : Groups) (r : Option ℕ) → record { numbers = ns; series = gs } ≡ g → r ≡ position (nat_eq n) ns
    → IfSome r (λ i. slice_get g.numbers i ≡ Some n)
found_in n ns gs g None view e = tt
found_in n ns gs g (Some i) view e = ap (λ (h : Groups). slice_get h.numbers i) (sym view) ∙ found_at n ns i e

-- the number that a view of them has at a place is there
pub viewed_at : (n : ℕ) (ns : List ℕ) (gs : WriteRequest) (g : Groups) (i : ℕ) → record { numbers = ns; series = gs } ≡ g → slice_get g.numbers i ≡ Some n → slice_get ns i ≡ Some n
viewed_at n ns gs g i view e = ap (λ (h : Groups). slice_get h.numbers i) view ∙ e

-- and is no new one
pub known_at : (n : ℕ) (ns : List ℕ) (i : ℕ) → slice_get ns i ≡ Some n → ns ≡ with_number n ns
known_at n ns i e = ap (λ (b : Bool). cond b ns (ns ++ n ∷ [])) (sym (any_passes_from_place (nat_eq n) ns i n e (eq-eqb n n refl)))

-- no labels of the list
none_same_as : (l m : Labels) (ls : List Labels) (b : Bool) → labels_eq l m ≡ b → (m ≡ l → ⊥) → list_any (labels_eq l) ls ≡ false → list_any (labels_eq l) (m ∷ ls) ≡ false
none_same_as l m ls true e differ h = absurd (differ (sym (same_if_equal l m e)))
none_same_as l m ls false e differ h = rw e h

none_same : (l : Labels) (ls : List Labels) → ((i : ℕ) → slice_get ls i ≡ Some l → ⊥) → list_any (labels_eq l) ls ≡ false
none_same l [] nowhere = refl
none_same l (m ∷ ls) nowhere =
    none_same_as l m ls (labels_eq l m) refl (λ e. nowhere 0 (ap Some e)) (none_same l ls (λ i e. nowhere (suc i) e))

-- the labels of a number that is new are new
labels_are_new : (n : ℕ) (l : Labels) (g : Groups) → list_any (nat_eq n) g.numbers ≡ false → StandsFor n l g → list_any (labels_eq l) (labels_of_series g.series) ≡ false
labels_are_new n l g none h =
    none_same l (labels_of_series g.series)
    (λ i e. both_ways (list_any (nat_eq n) g.numbers) none (any_passes_from_place (nat_eq n) g.numbers i n ((h i).1 e) (eq-eqb n n refl)))

-- a sample with new labels opens a series
pub with_sample-new : (l : Labels) (s : Sample) (gs : WriteRequest) → list_any (labels_eq l) (labels_of_series gs) ≡ false → with_sample l s gs ≡ gs ++ record { labels = l; samples = s ∷ [] } ∷ []
unfolding with_sample
with_sample-new l s [] e = refl
with_sample-new l s (g ∷ gs) e =
    let parts = or_parts (labels_eq l g.labels) (list_any (labels_eq l) (labels_of_series gs)) e in
    with_sample-other l s g gs parts.0 ∙ ap (λ r. g ∷ r) (with_sample-new l s gs parts.1)

with_number-new : (n : ℕ) (ns : List ℕ) → list_any (nat_eq n) ns ≡ false → with_number n ns ≡ ns ++ n ∷ []
with_number-new n ns e = ap (λ (b : Bool). cond b ns (ns ++ n ∷ [])) e

grouped_with_new : (n : ℕ) (ns : List ℕ) (g : TimeSeries) (gs : WriteRequest) → list_any (labels_eq g.labels) (labels_of_series gs) ≡ false
    → (length ns ≡ length gs) × IsDistinct labels_eq (labels_of_series gs) → (length (ns ++ n ∷ []) ≡ length (gs ++ g ∷ [])) × IsDistinct labels_eq (labels_of_series (gs ++ g ∷ []))
grouped_with_new n ns g gs none h =
    let P : List Labels → Type 0 = λ ls. IsDistinct labels_eq ls in (
      length_push ns n ∙ ap (λ k. k + 1) h.0 ∙ sym (length_push gs g),
      subst P (sym (map-append (λ (x : TimeSeries). x.labels) gs (g ∷ []))) (IsDistinct-push labels_eq-equivalence (labels_of_series gs) g.labels h.1 none),
    )

-- the series after a sample of a known number
pub grown_at : (n : ℕ) (l : Labels) (s : Sample) (ns : List ℕ) (gs : WriteRequest) (g : Groups) (i : ℕ) (old : TimeSeries) → record { numbers = ns; series = gs } ≡ g
    → StandsFor n l g → slice_get ns i ≡ Some n → IsDistinct labels_eq (labels_of_series gs) → old ≡ get_or gs i old
    → set gs i (record { labels = old.labels; samples = old.samples ++ s ∷ [] }) ≡ with_sample l s g.series
grown_at n l s ns gs g i old view h p d f =
    with_sample-at gs i l s old d ((subst (StandsFor n l) (sym view) h i).0 p) f ∙ ap (λ (g : Groups). with_sample l s g.series) view

-- the series after a sample of a new number
pub grown_by : (n : ℕ) (l : Labels) (s : Sample) (ns : List ℕ) (gs hs new : WriteRequest) (g : Groups) (x : TimeSeries) → record { numbers = ns; series = gs } ≡ g
    → list_any (nat_eq n) g.numbers ≡ false → StandsFor n l g → x ≡ record { labels = l; samples = s ∷ [] } → hs ≡ gs → new ≡ hs ++ x ∷ [] → new ≡ with_sample l s g.series
grown_by n l s ns gs hs new g x view none h value reserved pushed =
    pushed ∙ ap (λ r. r ++ x ∷ []) (reserved ∙ ap (λ (g : Groups). g.series) view) ∙ ap (λ r. g.series ++ r ∷ []) value
    ∙ sym (with_sample-new l s g.series (labels_are_new n l g none h))

pub grouped_by : (n : ℕ) (l : Labels) (s : Sample) (ns ms : List ℕ) (gs hs new : WriteRequest) (g : Groups) (x : TimeSeries) → record { numbers = ns; series = gs } ≡ g
    → list_any (nat_eq n) g.numbers ≡ false → StandsFor n l g → x ≡ record { labels = l; samples = s ∷ [] } → hs ≡ gs → new ≡ hs ++ x ∷ [] → ms ≡ with_number n ns
    → (length ns ≡ length gs) × IsDistinct labels_eq (labels_of_series gs) → (length ms ≡ length new) × IsDistinct labels_eq (labels_of_series new)
grouped_by n l s ns ms gs hs new g x view none h value reserved pushed numbers grouped =
    let none' : list_any (nat_eq n) ns ≡ false = ap (λ (g : Groups). list_any (nat_eq n) g.numbers) view ∙ none in
    let apart : list_any (labels_eq x.labels) (labels_of_series gs) ≡ false =
    ap (λ (y : TimeSeries). list_any (labels_eq y.labels) (labels_of_series gs)) value ∙ ap (λ (g : Groups). list_any (labels_eq l) (labels_of_series g.series)) view ∙ labels_are_new n l g none h in
    let P : List ℕ → WriteRequest → Type 0 = λ ks ss. (length ks ≡ length ss) × IsDistinct labels_eq (labels_of_series ss) in
    subst (λ ks. P ks new) (sym (numbers ∙ with_number-new n ns none'))
    (subst (P (ns ++ n ∷ [])) (sym (pushed ∙ ap (λ r. r ++ x ∷ []) reserved)) (grouped_with_new n ns x gs apart grouped))
