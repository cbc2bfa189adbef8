-- Messages whose labels are sorted, series by series.
use Rattle.std.proofs.Common.{◌≡◌, ℕ, zero, suc, ◌+◌, ◌<◌, List, [], ◌∷◌, length, take, drop, get_or, slice_set, refl, ap, ◌∙◌, subst, arith}
use Rattle.std.specs.List.Sorted.{IsSorted}
use Rattle.std.proofs.lemmas.List.Sorted.{IsPermutation-refl}
use Rattle.rw_types.specs.LabelOrder.{label_cmp}
use Rattle.rw_write_request.specs.Message.{TimeSeries, WriteRequest}
use Rattle.rw_sorted_labels.specs.Sorting.{SortsSeries, SortsMessage}

-- a series whose labels are sorted
pub sorted_one : (s : TimeSeries) → IsSorted label_cmp s.labels → SortsSeries s s
sorted_one s up = record { labels = record { same = IsPermutation-refl s.labels; sorted = up }; samples = refl }

more : (ms : WriteRequest) (i : ℕ) (s : TimeSeries) → i < length ms → s ≡ get_or ms i s → SortsMessage (take i ms) (take i ms) → SortsSeries s s
    → SortsMessage (take (suc i) ms) (take (suc i) ms)
more [] i s lt is done one = absurd (omega arith)
more (m ∷ ms) zero s lt is done one = (subst (λ x. SortsSeries x x) is one, tt)
more (m ∷ ms) (suc i) s lt is done one = (done.0, more ms i s (omega arith) is done.1 one)

-- one series more of a message whose labels are sorted
pub sorted_more : (ms : WriteRequest) (i : ℕ) (s : TimeSeries) → i < length ms → s ≡ get_or ms i s → SortsMessage (take i ms) (take i ms)
    → IsSorted label_cmp s.labels → SortsMessage (take (i + 1) ms) (take (i + 1) ms)
sorted_more ms i s lt is done up =
    subst (λ n. SortsMessage (take n ms) (take n ms)) {x = suc i} {y = i + 1} (omega arith) (more ms i s lt is done (sorted_one s up))

on : (ms ns : WriteRequest) (i : ℕ) (s t : TimeSeries) → i < length ms → s ≡ get_or ns i s → SortsMessage (take i ms) (take i ns) → drop i ns ≡ drop i ms
    → SortsSeries s t → SortsMessage (take (suc i) ms) (take (suc i) (slice_set ns i t)) × (drop (suc i) (slice_set ns i t) ≡ drop (suc i) ms)
on [] ns i s t lt is done rest one = absurd (omega arith)
on (m ∷ ms) [] zero s t lt is done rest one = absurd cc
on (m ∷ ms) (n ∷ ns) zero s t lt is done rest one =
    let first : n ≡ m = ap (λ (l : WriteRequest). get_or l 0 s) rest in
    ((subst (λ x. SortsSeries x t) (is ∙ first) one, tt), ap (λ (l : WriteRequest). drop 1 l) rest)
on (m ∷ ms) [] (suc i) s t lt is done rest one = absurd done
on (m ∷ ms) (n ∷ ns) (suc i) s t lt is done rest one =
    let r = on ms ns i s t (omega arith) is done.1 rest one in
    ((done.0, r.0), r.1)

-- one series more is sorted, in its place
pub sorted_on : (ms ns : WriteRequest) (i : ℕ) (s t : TimeSeries) → i < length ms → s ≡ get_or ns i s → SortsMessage (take i ms) (take i ns) → drop i ns ≡ drop i ms
    → SortsSeries s t → SortsMessage (take (i + 1) ms) (take (i + 1) (slice_set ns i t)) × (drop (i + 1) (slice_set ns i t) ≡ drop (i + 1) ms)
sorted_on ms ns i s t lt is done rest one =
    subst (λ n. SortsMessage (take n ms) (take n (slice_set ns i t)) × (drop n (slice_set ns i t) ≡ drop n ms)) {x = suc i} {y = i + 1} (omega arith)
    (on ms ns i s t lt is done rest one)
