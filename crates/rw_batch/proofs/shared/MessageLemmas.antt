-- How a message grows, and what holds of each message.
use Rattle.std.proofs.Common.{◌≡◌, ◌+◌, List, [], ◌∷◌, ◌++◌, map, length, Bool, true, false, not, cond, refl, sym, ◌∙◌, ap, ap₂, subst, arith, append_assoc}
use Rattle.std.specs.List.{filter, list_any, IsDistinct, AllByRecursion}
use Rattle.std.proofs.lemmas.List.{append-nil, map-append, length_push}
use Rattle.std.proofs.lemmas.List.Elements.{filter-append}
use Rattle.std.proofs.lemmas.List.Sums.{sum_by-cons}
use Rattle.std.proofs.lemmas.Map.Keys.{IsDistinct-head, IsDistinct-tail, IsDistinct-cons}
use Rattle.rw_types.specs.Labels.{Labels}
use Rattle.rw_types.specs.LabelOrder.{labels_eq}
use Rattle.rw_types.proofs.shared.AllLemmas.{AllByRecursion-filter}
use Rattle.rw_write_request.specs.Message.{Sample, TimeSeries, WriteRequest}
use Rattle.rw_batch.specs.Grouping.{LabelledSample, samples_of, distinct, message, with_sample, labels_of_series, sample_count, with_labels}
use Rattle.rw_batch.proofs.shared.LabelLemmas.{eq-self, eq-flip, eq-left, eq-right}

abbrev one_series : Labels → List Sample → TimeSeries
one_series l s = record { labels = l; samples = s }

-- the series with other labels
abbrev others : Labels → WriteRequest → WriteRequest
others l gs = filter (λ g. not (labels_eq l g.labels)) gs

-- a sample at the front
samples_of-cons_same : (l : Labels) (y : LabelledSample) (xs : List LabelledSample) → labels_eq l y.labels ≡ true → samples_of l (y ∷ xs) ≡ y.sample ∷ samples_of l xs
unfolding samples_of
samples_of-cons_same l y xs e =
    let rest = filter (λ (x : LabelledSample). labels_eq l x.labels) xs in
    ap (λ (b : Bool). map (λ (x : LabelledSample). x.sample) (cond b (y ∷ rest) rest)) e

samples_of-cons_other : (l : Labels) (y : LabelledSample) (xs : List LabelledSample) → labels_eq l y.labels ≡ false → samples_of l (y ∷ xs) ≡ samples_of l xs
unfolding samples_of
samples_of-cons_other l y xs e =
    let rest = filter (λ (x : LabelledSample). labels_eq l x.labels) xs in
    ap (λ (b : Bool). map (λ (x : LabelledSample). x.sample) (cond b (y ∷ rest) rest)) e

-- a sample at the end
samples_of-push : (l : Labels) (xs : List LabelledSample) (x : LabelledSample) (b : Bool) → labels_eq l x.labels ≡ b → samples_of l (xs ++ x ∷ []) ≡ samples_of l xs ++ cond b (x.sample ∷ []) []
unfolding samples_of
samples_of-push l xs x true e =
    let passes = λ (z : LabelledSample). labels_eq l z.labels in
    let sample = λ (z : LabelledSample). z.sample in
    ap (map sample) (filter-append passes xs (x ∷ [])) ∙ map-append sample (filter passes xs) (filter passes (x ∷ []))
    ∙ ap (λ (b : Bool). map sample (filter passes xs) ++ map sample (cond b (x ∷ []) [])) e
samples_of-push l xs x false e =
    let passes = λ (z : LabelledSample). labels_eq l z.labels in
    let sample = λ (z : LabelledSample). z.sample in
    ap (map sample) (filter-append passes xs (x ∷ [])) ∙ map-append sample (filter passes xs) (filter passes (x ∷ []))
    ∙ ap (λ (b : Bool). map sample (filter passes xs) ++ map sample (cond b (x ∷ []) [])) e

-- the series with other labels than those of a first sample
other_series_as : (y : LabelledSample) (xs : List LabelledSample) (d : Labels) (b : Bool) (ds : List Labels) (gs : WriteRequest)
    → labels_eq y.labels d ≡ b
    → map (λ l. one_series l (samples_of l (y ∷ xs))) ds ≡ gs
    → map (λ l. one_series l (samples_of l (y ∷ xs))) (cond (not b) (d ∷ ds) ds) ≡ cond (not b) (one_series d (samples_of d xs) ∷ gs) gs
other_series_as y xs d true ds gs e h = h
other_series_as y xs d false ds gs e h =
    ap₂ (λ g hs. g ∷ hs) (ap (one_series d) (samples_of-cons_other d y xs (eq-flip d y.labels ∙ e))) h

other_series : (y : LabelledSample) (xs : List LabelledSample) (ds : List Labels)
    → map (λ l. one_series l (samples_of l (y ∷ xs))) (filter (λ m. not (labels_eq y.labels m)) ds) ≡ others y.labels (map (λ l. one_series l (samples_of l xs)) ds)
other_series y xs [] = refl
other_series y xs (d ∷ ds) =
    other_series_as y xs d (labels_eq y.labels d) (filter (λ m. not (labels_eq y.labels m)) ds) (others y.labels (map (λ l. one_series l (samples_of l xs)) ds)) refl (other_series y xs ds)

-- the first sample opens the first series
message-cons : (y : LabelledSample) (xs : List LabelledSample) → message (y ∷ xs) ≡ one_series y.labels (y.sample ∷ samples_of y.labels xs) ∷ others y.labels (message xs)
unfolding message distinct
message-cons y xs =
    ap₂ (λ g hs. g ∷ hs) (ap (one_series y.labels) (samples_of-cons_same y.labels y xs (eq-self y.labels))) (other_series y xs (distinct (map (λ x. x.labels) xs)))

-- a message with one more sample, by its first series
pub with_sample-same : (l : Labels) (s : Sample) (g : TimeSeries) (gs : WriteRequest) → labels_eq l g.labels ≡ true → with_sample l s (g ∷ gs) ≡ one_series g.labels (g.samples ++ s ∷ []) ∷ gs
unfolding with_sample
with_sample-same l s g gs e = ap (λ (b : Bool). cond b (one_series g.labels (g.samples ++ s ∷ []) ∷ gs) (g ∷ with_sample l s gs)) e

pub with_sample-other : (l : Labels) (s : Sample) (g : TimeSeries) (gs : WriteRequest) → labels_eq l g.labels ≡ false → with_sample l s (g ∷ gs) ≡ g ∷ with_sample l s gs
unfolding with_sample
with_sample-other l s g gs e = ap (λ (b : Bool). cond b (one_series g.labels (g.samples ++ s ∷ []) ∷ gs) (g ∷ with_sample l s gs)) e

others-same : (y : Labels) (g : TimeSeries) (gs : WriteRequest) → labels_eq y g.labels ≡ true → others y (g ∷ gs) ≡ others y gs
others-same y g gs e = ap (λ (b : Bool). cond (not b) (g ∷ others y gs) (others y gs)) e

others-other : (y : Labels) (g : TimeSeries) (gs : WriteRequest) → labels_eq y g.labels ≡ false → others y (g ∷ gs) ≡ g ∷ others y gs
others-other y g gs e = ap (λ (b : Bool). cond (not b) (g ∷ others y gs) (others y gs)) e

-- a sample changes nothing of the series with other labels
others_stay_none : (y l : Labels) (s : Sample) → labels_eq y l ≡ true → others y (with_sample l s []) ≡ []
unfolding with_sample
others_stay_none y l s e = others-same y (one_series l (s ∷ [])) [] e

others_stay_as : (y l : Labels) (s : Sample) (g : TimeSeries) (gs : WriteRequest) (b : Bool) → labels_eq y l ≡ true → labels_eq l g.labels ≡ b
    → others y (with_sample l s gs) ≡ others y gs → others y (with_sample l s (g ∷ gs)) ≡ others y (g ∷ gs)
others_stay_as y l s g gs true e f h =
    let same : labels_eq y g.labels ≡ true = eq-left y l g.labels e ∙ f in
    ap (others y) (with_sample-same l s g gs f) ∙ others-same y (one_series g.labels (g.samples ++ s ∷ [])) gs same ∙ sym (others-same y g gs same)
others_stay_as y l s g gs false e f h =
    let apart : labels_eq y g.labels ≡ false = eq-left y l g.labels e ∙ f in
    ap (others y) (with_sample-other l s g gs f) ∙ others-other y g (with_sample l s gs) apart ∙ ap (λ r. g ∷ r) h ∙ sym (others-other y g gs apart)

others_stay : (y l : Labels) (s : Sample) (gs : WriteRequest) → labels_eq y l ≡ true → others y (with_sample l s gs) ≡ others y gs
others_stay y l s [] e = others_stay_none y l s e
others_stay y l s (g ∷ gs) e = others_stay_as y l s g gs (labels_eq l g.labels) e refl (others_stay y l s gs e)

-- a sample with other labels goes to the same place among the others
others_grow_none : (y l : Labels) (s : Sample) → labels_eq y l ≡ false → others y (with_sample l s []) ≡ with_sample l s []
unfolding with_sample
others_grow_none y l s e = others-other y (one_series l (s ∷ [])) [] e

others_grow_as : (y l : Labels) (s : Sample) (g : TimeSeries) (gs : WriteRequest) (b c : Bool) → labels_eq y l ≡ false → labels_eq l g.labels ≡ b → labels_eq y g.labels ≡ c
    → others y (with_sample l s gs) ≡ with_sample l s (others y gs) → others y (with_sample l s (g ∷ gs)) ≡ with_sample l s (others y (g ∷ gs))
others_grow_as y l s g gs true c e f k h =
    let apart : labels_eq y g.labels ≡ false = sym (eq-right l g.labels y f) ∙ e in
    ap (others y) (with_sample-same l s g gs f) ∙ others-other y (one_series g.labels (g.samples ++ s ∷ [])) gs apart
    ∙ sym (with_sample-same l s g (others y gs) f) ∙ ap (with_sample l s) (sym (others-other y g gs apart))
others_grow_as y l s g gs false true e f k h =
    ap (others y) (with_sample-other l s g gs f) ∙ others-same y g (with_sample l s gs) k ∙ h ∙ ap (with_sample l s) (sym (others-same y g gs k))
others_grow_as y l s g gs false false e f k h =
    ap (others y) (with_sample-other l s g gs f) ∙ others-other y g (with_sample l s gs) k ∙ ap (λ r. g ∷ r) h
    ∙ sym (with_sample-other l s g (others y gs) f) ∙ ap (with_sample l s) (sym (others-other y g gs k))

others_grow : (y l : Labels) (s : Sample) (gs : WriteRequest) → labels_eq y l ≡ false → others y (with_sample l s gs) ≡ with_sample l s (others y gs)
others_grow y l s [] e = others_grow_none y l s e
others_grow y l s (g ∷ gs) e =
    others_grow_as y l s g gs (labels_eq l g.labels) (labels_eq y g.labels) e refl refl (others_grow y l s gs e)

-- one more sample at the end
message_push_as : (y x : LabelledSample) (xs : List LabelledSample) (b : Bool) → labels_eq y.labels x.labels ≡ b
    → message (xs ++ x ∷ []) ≡ with_sample x.labels x.sample (message xs) → message (y ∷ xs ++ x ∷ []) ≡ with_sample x.labels x.sample (message (y ∷ xs))
message_push_as y x xs true e h =
    let rest = others y.labels (message xs) in
    let samples = y.sample ∷ samples_of y.labels xs in
    message-cons y (xs ++ x ∷ [])
    ∙ ap₂ (λ s gs. one_series y.labels (y.sample ∷ s) ∷ gs) (samples_of-push y.labels xs x true e) (ap (others y.labels) h ∙ others_stay y.labels x.labels x.sample (message xs) e)
    ∙ sym (with_sample-same x.labels x.sample (one_series y.labels samples) rest (eq-flip x.labels y.labels ∙ e))
    ∙ ap (with_sample x.labels x.sample) (sym (message-cons y xs))
message_push_as y x xs false e h =
    let rest = others y.labels (message xs) in
    let samples = y.sample ∷ samples_of y.labels xs in
    message-cons y (xs ++ x ∷ [])
    ∙ ap₂ (λ s gs. one_series y.labels (y.sample ∷ s) ∷ gs) (samples_of-push y.labels xs x false e ∙ append-nil (samples_of y.labels xs))
    (ap (others y.labels) h ∙ others_grow y.labels x.labels x.sample (message xs) e)
    ∙ sym (with_sample-other x.labels x.sample (one_series y.labels samples) rest (eq-flip x.labels y.labels ∙ e))
    ∙ ap (with_sample x.labels x.sample) (sym (message-cons y xs))

message_push_none : (x : LabelledSample) → message (x ∷ []) ≡ with_sample x.labels x.sample (message [])
unfolding message distinct with_sample samples_of
message_push_none x = message-cons x []

pub message-push : (xs : List LabelledSample) (x : LabelledSample) → message (xs ++ x ∷ []) ≡ with_sample x.labels x.sample (message xs)
message-push [] x = message_push_none x
message-push (y ∷ xs) x = message_push_as y x xs (labels_eq y.labels x.labels) refl (message-push xs x)

-- the labels of a message with one more sample
labels_with_as : (l : Labels) (s : Sample) (g : TimeSeries) (gs : WriteRequest) (b c : Bool) → labels_eq l g.labels ≡ b → list_any (labels_eq l) (labels_of_series gs) ≡ c
    → labels_of_series (with_sample l s gs) ≡ with_labels l (labels_of_series gs) → labels_of_series (with_sample l s (g ∷ gs)) ≡ with_labels l (labels_of_series (g ∷ gs))
labels_with_as l s g gs true c e f h = ap labels_of_series (with_sample-same l s g gs e) ∙ rw e refl
labels_with_as l s g gs false true e f h = ap labels_of_series (with_sample-other l s g gs e) ∙ ap (λ r. g.labels ∷ r) h ∙ rw (e, f) refl
labels_with_as l s g gs false false e f h = ap labels_of_series (with_sample-other l s g gs e) ∙ ap (λ r. g.labels ∷ r) h ∙ rw (e, f) refl

labels_with_none : (l : Labels) (s : Sample) → labels_of_series (with_sample l s []) ≡ with_labels l []
unfolding with_sample
labels_with_none l s = refl

pub labels_of-with_sample : (l : Labels) (s : Sample) (gs : WriteRequest) → labels_of_series (with_sample l s gs) ≡ with_labels l (labels_of_series gs)
labels_of-with_sample l s [] = labels_with_none l s
labels_of-with_sample l s (g ∷ gs) = labels_with_as l s g gs (labels_eq l g.labels) (list_any (labels_eq l) (labels_of_series gs)) refl refl (labels_of-with_sample l s gs)

-- no two labels are the same
apart_as : (l m : Labels) (ms : List Labels) (b : Bool) → labels_eq l m ≡ b → AllByRecursion (λ x. labels_eq l x ≡ false) ms → AllByRecursion (λ x. labels_eq l x ≡ false) (cond (not b) (m ∷ ms) ms)
apart_as l m ms true e h = h
apart_as l m ms false e h = (e, h)

apart : (l : Labels) (ms : List Labels) → AllByRecursion (λ x. labels_eq l x ≡ false) (filter (λ m. not (labels_eq l m)) ms)
apart l [] = tt
apart l (m ∷ ms) = apart_as l m (filter (λ x. not (labels_eq l x)) ms) (labels_eq l m) refl (apart l ms)

distinct_kept_as : (l : Labels) (ls : List Labels) (b : Bool) → AllByRecursion (λ x. labels_eq l x ≡ false) ls → IsDistinct labels_eq ls → IsDistinct labels_eq (cond b (l ∷ ls) ls)
distinct_kept_as l ls true p h = IsDistinct-cons labels_eq l ls p h
distinct_kept_as l ls false p h = h

distinct_kept : (p : Labels → Bool) (ls : List Labels) → IsDistinct labels_eq ls → IsDistinct labels_eq (filter p ls)
distinct_kept p [] h = h
distinct_kept p (l ∷ ls) h =
    distinct_kept_as l (filter p ls) (p l) (AllByRecursion-filter (λ x. labels_eq l x ≡ false) p ls (IsDistinct-head labels_eq l ls h)) (distinct_kept p ls (IsDistinct-tail labels_eq l ls h))

distinct_is_distinct : (ls : List Labels) → IsDistinct labels_eq (distinct ls)
unfolding distinct IsDistinct
distinct_is_distinct [] = tt
distinct_is_distinct (l ∷ ls) = (apart l (distinct ls), distinct_kept (λ m. not (labels_eq l m)) (distinct ls) (distinct_is_distinct ls))

labels_of_each : (f : Labels → List Sample) (ls : List Labels) → labels_of_series (map (λ l. one_series l (f l)) ls) ≡ ls
labels_of_each f [] = refl
labels_of_each f (l ∷ ls) = ap (λ r. l ∷ r) (labels_of_each f ls)

pub message_is_distinct : (xs : List LabelledSample) → IsDistinct labels_eq (labels_of_series (message xs))
unfolding message
message_is_distinct xs =
    let ls = distinct (map (λ (x : LabelledSample). x.labels) xs) in
    subst (IsDistinct labels_eq) (sym (labels_of_each (λ l. samples_of l xs) ls)) (distinct_is_distinct (map (λ x. x.labels) xs))

-- no sample is lost
count_cons : (g : TimeSeries) (gs : WriteRequest) → sample_count (g ∷ gs) ≡ length g.samples + sample_count gs
count_cons g gs = sum_by-cons (λ (g : TimeSeries). length g.samples) g gs

count_more_as : (l : Labels) (s : Sample) (g : TimeSeries) (gs : WriteRequest) (b : Bool) → labels_eq l g.labels ≡ b
    → sample_count (with_sample l s gs) ≡ sample_count gs + 1 → sample_count (with_sample l s (g ∷ gs)) ≡ sample_count (g ∷ gs) + 1
count_more_as l s g gs true e h =
    ap sample_count (with_sample-same l s g gs e) ∙ count_cons (one_series g.labels (g.samples ++ s ∷ [])) gs
    ∙ omega (arith, length_push g.samples s, count_cons g gs)
count_more_as l s g gs false e h =
    ap sample_count (with_sample-other l s g gs e) ∙ count_cons g (with_sample l s gs) ∙ omega (arith, h, count_cons g gs)

count_more_none : (l : Labels) (s : Sample) → sample_count (with_sample l s []) ≡ sample_count [] + 1
unfolding with_sample
count_more_none l s = refl

count_more : (l : Labels) (s : Sample) (gs : WriteRequest) → sample_count (with_sample l s gs) ≡ sample_count gs + 1
count_more l s [] = count_more_none l s
count_more l s (g ∷ gs) = count_more_as l s g gs (labels_eq l g.labels) refl (count_more l s gs)

count_along : (ys xs : List LabelledSample) → sample_count (message (ys ++ xs)) ≡ sample_count (message ys) + length xs
count_along ys [] = ap (λ z. sample_count (message z)) (append-nil ys) ∙ omega arith
count_along ys (x ∷ xs) =
    ap (λ z. sample_count (message z)) (sym (append_assoc ys (x ∷ []) xs)) ∙ count_along (ys ++ x ∷ []) xs
    ∙ omega (arith, ap sample_count (message-push ys x), count_more x.labels x.sample (message ys))

count_none : sample_count (message []) ≡ 0
unfolding message distinct
count_none = refl

pub sample_count-message : (xs : List LabelledSample) → sample_count (message xs) ≡ length xs
sample_count-message xs = count_along [] xs ∙ omega (arith, count_none)
