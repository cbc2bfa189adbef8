-- Series that are found by their labels: a key for each series, in the same order.
use Rattle.std.proofs.Common.{◌≡◌, ℕ, zero, suc, List, [], ◌∷◌, ◌++◌, map, set, get_or, slice_get, Some, Bool, true, false, cond, not, ◌||◌, refl, sym, ◌∙◌, ap}
use Rattle.std.specs.List.{list_any, IsDistinct}
use Rattle.std.proofs.lemmas.List.{map-append}
use Rattle.rw_types.specs.Labels.{Labels}
use Rattle.rw_types.specs.LabelOrder.{labels_eq}
use Rattle.rw_types.proofs.shared.OrderLemmas.{same_if_equal}
use Rattle.rw_write_request.specs.Message.{Sample, TimeSeries, WriteRequest}
use Rattle.rw_batch.specs.Grouping.{with_sample, labels_of_series}
use Rattle.rw_batch.proofs.GroupsLemmas.{with_sample-at, with_sample-new}

module _ {K : Type 0} (v : K → Labels) where
  -- a test of the labels is a test of the keys
  pub any-map : (l : Labels) (ks : List K) → list_any (labels_eq l) (map v ks) ≡ list_any (λ k. labels_eq l (v k)) ks
  any-map l [] = refl
  any-map l (k ∷ ks) = ap (λ b. labels_eq l (v k) || b) (any-map l ks)

  -- the labels of the keys, with one more
  pub kept_or_pushed : (ks : List K) (k : K) (b : Bool) → cond b (map v ks) (map v ks ++ v k ∷ []) ≡ map v (cond b ks (ks ++ k ∷ []))
  kept_or_pushed ks k true = refl
  kept_or_pushed ks k false = sym (map-append v ks (k ∷ []))

  get-map : (ks : List K) (i : ℕ) (k : K) → slice_get ks i ≡ Some k → slice_get (map v ks) i ≡ Some (v k)
  get-map [] i k e = absurd cc
  get-map (x ∷ ks) zero k e = let same : x ≡ k = cc in ap (λ y. Some (v y)) same
  get-map (x ∷ ks) (suc i) k e = get-map ks i k e

  -- a key that is new opens a series
  pub opened : (ks : List K) (gs : WriteRequest) (l : Labels) (s : Sample) (b : Bool) → map v ks ≡ labels_of_series gs → b ≡ not (list_any (λ k. labels_eq l (v k)) ks) → b ≡ true
      → with_sample l s gs ≡ gs ++ record { labels = l; samples = s ∷ [] } ∷ []
  opened ks gs l s b same is new =
      with_sample-new l s gs (ap (list_any (labels_eq l)) (sym same) ∙ any-map l ks ∙ negated (list_any (λ k. labels_eq l (v k)) ks) (sym is ∙ new))
    where
      negated : (x : Bool) → not x ≡ true → x ≡ false
      negated true e = absurd cc
      negated false e = refl

  known : (x : Bool) (b : Bool) → b ≡ not x → b ≡ false → x ≡ true
  known true b e f = refl
  known false b e f = absurd cc

  -- if a key is known the keys stay
  pub keys_stay : (ks new : List K) (k : K) (l : Labels) (b : Bool) → b ≡ not (list_any (λ k. labels_eq l (v k)) ks) → b ≡ false → new ≡ cond (list_any (λ k. labels_eq l (v k)) ks) ks (ks ++ k ∷ []) → new ≡ ks
  keys_stay ks new k l b is old e = e ∙ ap (λ x. cond x ks (ks ++ k ∷ [])) (known _ b is old)

  -- and its place is that of the series with these labels
  pub labels_at : (ks new : List K) (k : K) (gs : WriteRequest) (l : Labels) (i : ℕ) → new ≡ ks → map v ks ≡ labels_of_series gs → slice_get new i ≡ Some k → labels_eq l (v k) ≡ true → slice_get (labels_of_series gs) i ≡ Some l
  labels_at ks new k gs l i stay same at equal =
      ap (λ ls. slice_get ls i) (sym same) ∙ get-map ks i k (ap (λ r. slice_get r i) (sym stay) ∙ at) ∙ ap Some (sym (same_if_equal l (v k) equal))

  -- the series at that place gets the sample
  pub grown : (ks new : List K) (k : K) (gs : WriteRequest) (l : Labels) (s : Sample) (i : ℕ) (old g : TimeSeries) → new ≡ ks → map v ks ≡ labels_of_series gs → IsDistinct labels_eq (labels_of_series gs)
      → slice_get new i ≡ Some k → labels_eq l (v k) ≡ true → old ≡ get_or gs i old → g ≡ record { labels = old.labels; samples = old.samples ++ s ∷ [] } → set gs i g ≡ with_sample l s gs
  grown ks new k gs l s i old g stay same apart at equal is pushed =
      ap (set gs i) pushed ∙ with_sample-at gs i l s old apart (labels_at ks new k gs l i stay same at equal) is
