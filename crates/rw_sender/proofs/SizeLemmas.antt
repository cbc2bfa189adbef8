-- What the samples of a message count.
use Rattle.std.proofs.Common.{◌≡◌, ℕ, zero, suc, ◌+◌, ◌/◌, ◌<◌, ◌≤◌, List, [], ◌∷◌, ◌++◌, length, Bool, true, false, cond, refl, ap, ◌∙◌, subst, inl, inr, append_assoc, append-nil, length-append, zero-add, arith}
use Rattle.std.specs.List.{sum_by}
use Rattle.std.proofs.lemmas.Bool.{cases_lt, le-ltb, lt-ltb}
use Rattle.std.proofs.lemmas.Grind.{flat_map-append}
use Rattle.std.proofs.lemmas.List.Sums.{sum_by-cons}
use Rattle.rw_codes.specs.Varint.{groups}
use Rattle.rw_types.specs.Labels.{Labels}
use Rattle.rw_types.specs.LabelOrder.{labels_eq}
use Rattle.rw_write_request.specs.Message.{Sample, TimeSeries, WriteRequest}
use Rattle.rw_types.specs.LabelFields.{label_fields}
use Rattle.rw_write_request.specs.Canon.{canon, sample_field, sample_fields, series, series_field}
use Rattle.rw_batch.specs.Grouping.{LabelledSample, message, distinct, with_sample}
use Rattle.rw_sender.specs.Sizes.{size_of_sample, bytes_alone}
use Rattle.rw_codes.proofs.shared.Digits.{groups_some}
use Rattle.rw_write_request.proofs.shared.Spelled.{series-field-length}

abbrev one_series : Labels → List Sample → TimeSeries
one_series l ss = record { labels = l; samples = ss }

groups_one : (k n : ℕ) → n < 128 → length (groups k n) ≡ 1
unfolding groups
groups_one zero n lt = refl
groups_one (suc k) n lt = rw (lt-ltb n 128 lt) refl

groups_more : (k n : ℕ) → 128 ≤ n → length (groups (suc k) n) ≡ suc (length (groups k (n / 128)))
unfolding groups
groups_more k n le = rw (le-ltb n 128 le) refl

groups_zero : (n : ℕ) → length (groups zero n) ≡ 1
unfolding groups
groups_zero n = refl

-- a little more takes one byte more at most
groups_near : (k a b : ℕ) → a ≤ b → b < a + 128 → length (groups k b) ≤ length (groups k a) + 1
groups_near zero a b low high = let one = groups_zero b in omega arith
groups_near (suc k) a b low high = elim (cases_lt b 128) [
  | inl lt ↦ let one = groups_one (suc k) b lt in omega arith
  | inr le ↦ elim (cases_lt a 128) [
    | inl lt ↦
        let more = groups_more k b le in
        let one = groups_one k (b / 128) (omega arith) in
        let some = groups_some (suc k) a in
        omega arith
    | inr big ↦
        let more = groups_more k b le in
        let was = groups_more k a big in
        let near = groups_near k (a / 128) (b / 128) (omega arith) (omega arith) in
        omega arith
  ]
]

series_push_len : (l : Labels) (ss : List Sample) (s : Sample) → length (series (one_series l (ss ++ s ∷ []))) ≡ length (series (one_series l ss)) + length (sample_field s)
unfolding series
series_push_len l ss s =
    let more = ap length (flat_map-append sample_field ss (s ∷ [])) ∙ length-append (sample_fields ss) (sample_field s ++ []) ∙ ap (λ bs. length (sample_fields ss) + length bs) (append-nil (sample_field s)) in
    let was = length-append (label_fields l) (sample_fields ss) in
    let now = length-append (label_fields l) (sample_fields (ss ++ s ∷ [])) in
    omega arith

pub bytes_some : (l : Labels) (s : Sample) → 1 ≤ size_of_sample l s
unfolding size_of_sample
bytes_some l s = let len = series-field-length (one_series l (s ∷ [])) in omega arith

-- more than the field of the sample
bytes_hold : (l : Labels) (s : Sample) → length (sample_field s) + 2 ≤ size_of_sample l s
unfolding size_of_sample series
bytes_hold l s =
    let len = series-field-length (one_series l (s ∷ [])) in
    let some = groups_some 9 (length (series (one_series l (s ∷ [])))) in
    let all = length-append (label_fields l) (sample_field s ++ []) in
    let alone = ap length (append-nil (sample_field s)) in
    omega arith

-- one sample more in a series
series_grows : (l m : Labels) (ss : List Sample) (s : Sample) → length (sample_field s) ≤ 22 → length (series_field (one_series l (ss ++ s ∷ []))) ≤ length (series_field (one_series l ss)) + size_of_sample m s
series_grows l m ss s short =
    let was = series-field-length (one_series l ss) in
    let now = series-field-length (one_series l (ss ++ s ∷ [])) in
    let push = series_push_len l ss s in
    let near = groups_near 9 (length (series (one_series l ss))) (length (series (one_series l (ss ++ s ∷ [])))) (omega arith) (omega arith) in
    let hold = bytes_hold m s in
    omega arith

-- one sample more in a message
canon_grows : (l : Labels) (s : Sample) (gs : WriteRequest) → length (sample_field s) ≤ 22 → length (canon (with_sample l s gs)) ≤ length (canon gs) + size_of_sample l s
unfolding with_sample size_of_sample
canon_grows l s [] short = let alone = ap length (append-nil (series_field (one_series l (s ∷ [])))) in omega arith
canon_grows l s (g ∷ gs) short = by_labels (canon_grows l s gs short) (labels_eq l g.labels)
  where
    by_labels : length (canon (with_sample l s gs)) ≤ length (canon gs) + size_of_sample l s → (b : Bool) → length (canon (cond b (one_series g.labels (g.samples ++ s ∷ []) ∷ gs) (g ∷ with_sample l s gs))) ≤ length (canon (g ∷ gs)) + size_of_sample l s
    by_labels rest true =
        let one = series_grows g.labels l g.samples s short in
        let was = length-append (series_field g) (canon gs) in
        let now = length-append (series_field (one_series g.labels (g.samples ++ s ∷ []))) (canon gs) in
        omega arith
    by_labels rest false =
        let was = length-append (series_field g) (canon gs) in
        let now = length-append (series_field g) (canon (with_sample l s gs)) in
        omega arith

module _ (grows : (xs : List LabelledSample) (x : LabelledSample) → message (xs ++ x ∷ []) ≡ with_sample x.labels x.sample (message xs)) (short : (s : Sample) → length (sample_field s) ≤ 22) where
  message_more : (xs ys : List LabelledSample) → length (canon (message (xs ++ ys))) ≤ length (canon (message xs)) + sum_by bytes_alone ys
  message_more xs [] = let same = ap (λ (zs : List LabelledSample). length (canon (message zs))) (append-nil xs) in omega arith
  message_more xs (y ∷ ys) =
      let one = canon_grows y.labels y.sample (message xs) (short y.sample) in
      let is = ap (λ gs. length (canon gs)) (grows xs y) in
      let rest = message_more (xs ++ y ∷ []) ys in
      let same = ap (λ (zs : List LabelledSample). length (canon (message zs))) (append_assoc xs (y ∷ []) ys) in
      let sum = sum_by-cons bytes_alone y ys in
      omega arith

  pub message_within : (xs : List LabelledSample) → length (canon (message xs)) ≤ sum_by bytes_alone xs
  unfolding message distinct
  message_within xs = subst (λ n. length (canon (message xs)) ≤ n) (zero-add (sum_by bytes_alone xs)) (message_more [] xs)
