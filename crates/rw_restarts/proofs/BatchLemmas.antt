-- The message of a batch has of each label set the samples of the batch.
use Rattle.std.proofs.Common.{◌≡◌, Bool, true, false, true≢false, not, ◌||◌, cond, List, [], ◌∷◌, ◌++◌, map, filter, append-nil, refl, sym, ap, ◌∙◌}
use Rattle.std.specs.List.{AllByRecursion, list_any}
use Rattle.rw_types.specs.Labels.{Labels}
use Rattle.rw_types.specs.LabelOrder.{labels_eq}
use Rattle.rw_types.proofs.shared.OrderLemmas.{same_if_equal, equal_if_same}
use Rattle.rw_write_request.specs.Message.{Sample, TimeSeries}
use Rattle.rw_plain_queue.specs.Items.{Placed}
use Rattle.rw_batch.specs.Grouping.{LabelledSample, distinct, samples_of, message}
use Rattle.rw_shard_core.specs.Shard.{labelled}
use Rattle.rw_head.specs.Order.{points}
use Rattle.rw_restarts.specs.Parts.{points_in}
use Rattle.rw_restarts.specs.Workers.{samples_in_batch}

turned : (l m : Labels) → labels_eq l m ≡ false → (b : Bool) → labels_eq m l ≡ b → b ≡ false
turned l m h true e = absurd (true≢false (sym (equal_if_same l m (sym (same_if_equal m l e))) ∙ h))
turned l m h false e = refl

module _ (g : Labels → List Sample) where
  abbrev series : Labels → TimeSeries
  series m = record { labels = m; samples = g m }

  -- of other label sets nothing comes
  none_of : (l : Labels) (ks : List Labels) → AllByRecursion (λ k. labels_eq l k ≡ false) ks → points_in l (map series ks) ≡ []
  none_of l [] all = refl
  none_of l (k ∷ ks) all = ap (λ b. cond b (points (g k)) [] ++ points_in l (map series ks)) all.0 ∙ none_of l ks all.1

  -- what is left out is of other label sets
  filtered : (l : Labels) (q : Labels → Bool) (ks : List Labels) → ((k : Labels) → q k ≡ false → labels_eq l k ≡ false) → points_in l (map series (filter q ks)) ≡ points_in l (map series ks)
  filtered l q [] other = refl
  filtered l q (k ∷ ks) other = by_test (q k) refl (filtered l q ks other)
    where
      by_test : (b : Bool) → q k ≡ b → points_in l (map series (filter q ks)) ≡ points_in l (map series ks)
          → points_in l (map series (cond b (k ∷ filter q ks) (filter q ks))) ≡ points_in l (map series (k ∷ ks))
      by_test true e more = ap (λ ys. cond (labels_eq l k) (points (g k)) [] ++ ys) more
      by_test false e more = more ∙ ap (λ b. cond b (points (g k)) [] ++ points_in l (map series ks)) (sym (other k e))

  all_other : (l m : Labels) → l ≡ m → (ks : List Labels) → AllByRecursion (λ k. labels_eq l k ≡ false) (filter (λ k. not (labels_eq m k)) ks)
  all_other l m same [] = tt
  all_other l m same (k ∷ ks) = by_test (labels_eq m k) refl (all_other l m same ks)
    where
      by_test : (b : Bool) → labels_eq m k ≡ b → AllByRecursion (λ j. labels_eq l j ≡ false) (filter (λ j. not (labels_eq m j)) ks)
          → AllByRecursion (λ j. labels_eq l j ≡ false) (cond (not b) (k ∷ filter (λ j. not (labels_eq m j)) ks) (filter (λ j. not (labels_eq m j)) ks))
      by_test true e more = more
      by_test false e more = (ap (λ n. labels_eq n k) same ∙ e, more)

  once : (l : Labels) (ls : List Labels) → points_in l (map series (distinct ls)) ≡ cond (list_any (labels_eq l) ls) (points (g l)) []
  unfolding distinct
  once l [] = refl
  once l (m ∷ ls) = by_test (labels_eq l m) refl (once l ls)
    where
      others : List Labels
      others = filter (λ k. not (labels_eq m k)) (distinct ls)

      left_out : labels_eq l m ≡ false → (k : Labels) (b : Bool) → labels_eq m k ≡ b → not b ≡ false → labels_eq l k ≡ false
      left_out h k true e out = ap (λ n. labels_eq l n) (sym (same_if_equal m k e)) ∙ h
      left_out h k false e out = absurd (true≢false out)

      by_test : (b : Bool) → labels_eq l m ≡ b → points_in l (map series (distinct ls)) ≡ cond (list_any (labels_eq l) ls) (points (g l)) []
          → cond b (points (g m)) [] ++ points_in l (map series (filter (λ k. not (labels_eq m k)) (distinct ls))) ≡ cond (b || list_any (labels_eq l) ls) (points (g l)) []
      by_test true e more =
          let same : l ≡ m = same_if_equal l m e in
          ap (λ ys. points (g m) ++ ys) (none_of l (filter (λ k. not (labels_eq m k)) (distinct ls)) (all_other l m same (distinct ls))) ∙ append-nil (points (g m)) ∙ ap (λ n. points (g n)) (sym same)
      by_test false e more = filtered l (λ k. not (labels_eq m k)) (distinct ls) (λ k out. left_out e k (labels_eq m k) refl out) ∙ more

-- ---- the samples of a label set
no_samples : (l : Labels) (xs : List LabelledSample) → list_any (labels_eq l) (map (λ x. x.labels) xs) ≡ false → points (samples_of l xs) ≡ []
unfolding samples_of
no_samples l [] none = refl
no_samples l (x ∷ xs) none = by_test (labels_eq l x.labels) none (no_samples l xs)
  where
    by_test : (b : Bool) → (b || list_any (labels_eq l) (map (λ (y : LabelledSample). y.labels) xs)) ≡ false
        → (list_any (labels_eq l) (map (λ (y : LabelledSample). y.labels) xs) ≡ false → points (map (λ (y : LabelledSample). y.sample) (filter (λ (y : LabelledSample). labels_eq l y.labels) xs)) ≡ [])
        → points (map (λ (y : LabelledSample). y.sample) (cond b (x ∷ filter (λ (y : LabelledSample). labels_eq l y.labels) xs) (filter (λ (y : LabelledSample). labels_eq l y.labels) xs))) ≡ []
    by_test true h more = absurd (true≢false h)
    by_test false h more = more h

points_are : (l : Labels) (batch : List Placed) → points (samples_of l (map labelled batch)) ≡ samples_in_batch l batch
unfolding samples_of
points_are l [] = refl
points_are l (x ∷ xs) = by_test (labels_eq l x.labels) (points_are l xs)
  where
    rest : List LabelledSample
    rest = filter (λ (y : LabelledSample). labels_eq l y.labels) (map labelled xs)

    by_test : (b : Bool) → points (map (λ (y : LabelledSample). y.sample) rest) ≡ samples_in_batch l xs
        → points (map (λ (y : LabelledSample). y.sample) (cond b (labelled x ∷ rest) rest)) ≡ map (λ (y : Placed). (y.t, y.word)) (cond b (x ∷ filter (λ (y : Placed). labels_eq l y.labels) xs) (filter (λ (y : Placed). labels_eq l y.labels) xs))
    by_test true h = ap (λ ps. (x.t, x.word) ∷ ps) h
    by_test false h = h

message-points : (l : Labels) (xs : List LabelledSample) → points_in l (message xs) ≡ points (samples_of l xs)
unfolding message
message-points l xs = once (λ m. samples_of m xs) l (map (λ x. x.labels) xs) ∙ by_test (list_any (labels_eq l) (map (λ x. x.labels) xs)) refl
  where
    by_test : (b : Bool) → list_any (labels_eq l) (map (λ (x : LabelledSample). x.labels) xs) ≡ b → cond b (points (samples_of l xs)) [] ≡ points (samples_of l xs)
    by_test true e = refl
    by_test false e = sym (no_samples l xs e)

pub batch-samples : (batch : List Placed) (l : Labels) → points_in l (message (map labelled batch)) ≡ samples_in_batch l batch
batch-samples batch l = message-points l (map labelled batch) ∙ points_are l batch
