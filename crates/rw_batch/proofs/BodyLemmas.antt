-- The parts of a body.
use Rattle.std.proofs.Common.{◌≡◌, ℕ, ◌+◌, ◌≤◌, ◌<◌, List, [], ◌∷◌, ◌++◌, length, map, take, get_or, Bool, true, false, cond, refl, sym, ap, ◌∙◌, length-append, append_assoc}
use Rattle.std.specs.List.{filter, AllByRecursion}
use Rattle.std.proofs.lemmas.Option.{slice_get-get_or, get_or_from_slice_get}
use Rattle.rw_types.specs.Labels.{Labels}
use Rattle.rw_types.specs.LabelOrder.{labels_eq}
use Rattle.rw_write_request.specs.Canon.{series_field, series_head, sample_fields, canon}
use Rattle.rw_write_request.specs.Message.{Sample, TimeSeries}
use Rattle.rw_write_request.specs.Valid.{IsValidSample, IsSeries}
use Rattle.rw_write_request.proofs.shared.Spelled.{series-field-parts}
use Rattle.rw_types.proofs.shared.FittingLemmas.{part_fits, one_more}
use Rattle.rw_batch.specs.Grouping.{LabelledSample, samples_of, distinct, message}
use Rattle.rw_batch.specs.inner.Grouping.{series_at}
use Rattle.rw_batch.specs.inner.Kept.{samples_alone, parts_len, HasLabels}

abbrev one_series : Labels → List Sample → TimeSeries
one_series l s = record { labels = l; samples = s }

pub in_parts : (s : TimeSeries) → series_field s ≡ series_head s.labels (length (sample_fields s.samples)) ++ sample_fields s.samples
in_parts s = series-field-parts s.labels s.samples

pub len_of_parts : (s : TimeSeries) → length (series_field s) ≡ parts_len s
len_of_parts s = ap length (in_parts s) ∙ length-append (series_head s.labels (length (sample_fields s.samples))) (sample_fields s.samples)

-- what was there, the head, and then the fields
pub joined : (s : TimeSeries) (old out fields : List ℕ) → out ≡ old ++ series_head s.labels (length (sample_fields s.samples)) → fields ≡ sample_fields s.samples → out ++ fields ≡ old ++ series_field s
joined s old out fields e f =
    ap (λ (b : List ℕ). b ++ fields) e ∙ ap (λ (b : List ℕ). (old ++ series_head s.labels (length (sample_fields s.samples))) ++ b) f
    ∙ append_assoc old (series_head s.labels (length (sample_fields s.samples))) (sample_fields s.samples) ∙ ap (λ (b : List ℕ). old ++ b) (sym (in_parts s))

pub place_is : (xs : List LabelledSample) (place : ℕ) → place < length (message xs) → series_at xs place ≡ get_or (message xs) place (series_at xs place)
place_is xs place lt =
    sym (get_or_from_slice_get (message xs) place (series_at xs place) (series_at xs place) (slice_get-get_or (message xs) place (record { labels = []; samples = [] }) lt))

pub series_fits : (xs : List LabelledSample) (place : ℕ) → place < length (message xs) → length (canon (take place (message xs))) + length (series_field (series_at xs place)) ≤ length (canon (message xs))
series_fits xs place lt = part_fits series_field (message xs) place (series_at xs place) lt (place_is xs place lt)

pub series_more : (xs : List LabelledSample) (place : ℕ) → place < length (message xs)
    → length (canon (take (place + 1) (message xs))) ≡ length (canon (take place (message xs))) + length (series_field (series_at xs place))
series_more xs place lt =
    let front = canon (take place (message xs)) in
    let field = series_field (series_at xs place) in
    ap length (sym (one_more series_field (message xs) place (series_at xs place) [] front (front ++ field) field lt (place_is xs place lt) refl refl refl)) ∙ length-append front field

-- what a program holds can be spelled
kept_valid : (b : Bool) (x : LabelledSample) (ys : List LabelledSample) → IsValidSample x.sample → AllByRecursion IsValidSample (samples_alone ys) → AllByRecursion IsValidSample (samples_alone (cond b (x ∷ ys) ys))
kept_valid true x ys p h = (p, h)
kept_valid false x ys p h = h

filter_valid : (p : LabelledSample → Bool) (xs : List LabelledSample) → AllByRecursion IsValidSample (samples_alone xs) → AllByRecursion IsValidSample (samples_alone (filter p xs))
filter_valid p [] h = h
filter_valid p (x ∷ xs) h = kept_valid (p x) x (filter p xs) h.0 (filter_valid p xs h.1)

each_valid : (xs : List LabelledSample) (ls : List Labels) → AllByRecursion IsValidSample (samples_alone xs)
    → AllByRecursion HasLabels (map (λ (l : Labels). one_series l (samples_of l xs)) ls) → AllByRecursion IsSeries (map (λ (l : Labels). one_series l (samples_of l xs)) ls)
unfolding samples_of
each_valid xs [] v h = tt
each_valid xs (l ∷ ls) v h = (record { labels = h.0; samples = filter_valid (λ (x : LabelledSample). labels_eq l x.labels) xs v }, each_valid xs ls v h.1)

pub message_valid : (xs : List LabelledSample) → AllByRecursion IsValidSample (samples_alone xs) → AllByRecursion HasLabels (message xs) → AllByRecursion IsSeries (message xs)
unfolding message
message_valid xs v h = each_valid xs (distinct (map (λ (x : LabelledSample). x.labels) xs)) v h
