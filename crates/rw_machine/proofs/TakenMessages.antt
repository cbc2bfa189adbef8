-- A head that takes a whole message: each label set of it once.
use Rattle.std.proofs.Common.{◌≡◌, Bool, true, false, List, [], ◌∷◌, ◌++◌, map, filter, Option, Some, refl, sym, ap, ◌∙◌, subst, not}
use Rattle.std.proofs.lemmas.Bool.{true≢false, not-true, cond-false, cond-true}
use Rattle.std.specs.List.{AllByRecursion}
use Rattle.rw_types.proofs.shared.AllLemmas.{AllByRecursion-filter, AllByRecursion-weaker}
use Rattle.rw_machine.proofs.shared.Steps.{same_is, is_same}
use Rattle.rw_head.specs.Order.{accept}
use Rattle.rw_machine.proofs.shared.Views.{Pairs, Store, of, pairs, series_of}
use Rattle.rw_machine.proofs.Heads.{store_at, put_series, accept_series, accept_all}
use Rattle.rw_batch.specs.Grouping.{distinct}
use Rattle.rw_plain_queue.specs.Items.{Placed}
use Rattle.rw_types.specs.LabelOrder.{labels_eq}
use Rattle.rw_types.specs.Labels.{Labels}
use Rattle.rw_types.proofs.shared.Booleans.{either}

-- no label set twice
abbrev pub Apart : List Labels → Type 0
Apart [] = Unit {0}
Apart (l ∷ ls) = AllByRecursion (λ m. labels_eq l m ≡ false) ls × Apart ls

apart_filter : (p : Labels → Bool) (ls : List Labels) → Apart ls → Apart (filter p ls)
apart_filter p [] h = tt
apart_filter p (l ∷ ls) h = either Apart (p l) (l ∷ filter p ls) (filter p ls) (λ _. (AllByRecursion-filter (λ m. labels_eq l m ≡ false) p ls h.0, apart_filter p ls h.1)) (λ _. apart_filter p ls h.1)

passes : (p : Labels → Bool) (ls : List Labels) → AllByRecursion (λ m. p m ≡ true) (filter p ls)
passes p [] = tt
passes p (l ∷ ls) = either (AllByRecursion (λ m. p m ≡ true)) (p l) (l ∷ filter p ls) (filter p ls) (λ h. (h, passes p ls)) (λ _. passes p ls)

pub distinct_apart : (ls : List Labels) → Apart (distinct ls)
unfolding distinct
distinct_apart [] = tt
distinct_apart (l ∷ ls) = (AllByRecursion-weaker (λ m. not (labels_eq l m) ≡ true) (λ m. labels_eq l m ≡ false) (λ m. not-true (labels_eq l m)) (filter (λ m. not (labels_eq l m)) (distinct ls)) (passes (λ m. not (labels_eq l m)) (distinct ls)), apart_filter (λ m. not (labels_eq l m)) (distinct ls) (distinct_apart ls))

-- what a store that took a message has
pub record Took (store : Store) (add : Labels → Pairs) (ls : List Labels) (o : Option Store) : Type 0 where
  pub after : Store
  pub taken : o ≡ Some after
  pub inside : AllByRecursion (λ l. after l ≡ store l ++ add l) ls
  pub outside : (l : Labels) → AllByRecursion (λ m. labels_eq m l ≡ false) ls → after l ≡ store l

turned_same : (l m : Labels) → labels_eq l m ≡ false → labels_eq m l ≡ false
turned_same l m h = by_test (labels_eq m l) refl
  where
    by_test : (b : Bool) → labels_eq m l ≡ b → b ≡ false
    by_test true e = absurd (true≢false (sym (is_same l m (sym (same_is m l e))) ∙ h))
    by_test false e = refl

pub take_message : (b : List Placed) (add : Labels → Pairs) (ls : List Labels) (store : Store) → Apart ls → AllByRecursion (λ l. accept (Some (store l)) (pairs (of l b)) ≡ Some (store l ++ add l)) ls → Took store add ls (accept_all (Some store) (map (series_of b) ls))
take_message b add [] store apart all = record { after = store; taken = refl; inside = tt; outside = λ l _. refl }
take_message b add (l ∷ ls) store apart all =
    let next : Store = store_at l (store l ++ add l) store in
    let step : accept_series (Some store) (series_of b l) ≡ Some next = ap (λ o. put_series l o store) all.0 in
    let kept : (m : Labels) → labels_eq l m ≡ false → next m ≡ store m = λ m h. cond-false (labels_eq l m) (store l ++ add l) (store m) h in
    let rest = take_message b add ls next apart.1 (both ls apart.0 all.1) in
    record {
      after = rest.after;
      taken = ap (λ o. accept_all o (map (series_of b) ls)) step ∙ rest.taken;
      inside = (rest.outside l (AllByRecursion-weaker (λ m. labels_eq l m ≡ false) (λ m. labels_eq m l ≡ false) (turned_same l) ls apart.0) ∙ cond-true (labels_eq l l) (store l ++ add l) (store l) (is_same l l refl), back ls apart.0 rest.after rest.inside);
      outside = λ m h. rest.outside m h.1 ∙ kept m h.0;
    }
  where
    both : (ms : List Labels) → AllByRecursion (λ m. labels_eq l m ≡ false) ms → AllByRecursion (λ m. accept (Some (store m)) (pairs (of m b)) ≡ Some (store m ++ add m)) ms → AllByRecursion (λ m. accept (Some (store_at l (store l ++ add l) store m)) (pairs (of m b)) ≡ Some (store_at l (store l ++ add l) store m ++ add m)) ms
    both [] apart all = tt
    both (m ∷ ms) apart all = (subst (λ (xs : Pairs). accept (Some xs) (pairs (of m b)) ≡ Some (xs ++ add m)) (sym (cond-false (labels_eq l m) (store l ++ add l) (store m) apart.0)) all.0, both ms apart.1 all.1)

    back : (ms : List Labels) → AllByRecursion (λ m. labels_eq l m ≡ false) ms → (after : Store) → AllByRecursion (λ m. after m ≡ store_at l (store l ++ add l) store m ++ add m) ms → AllByRecursion (λ m. after m ≡ store m ++ add m) ms
    back [] apart after all = tt
    back (m ∷ ms) apart after all = (all.0 ∙ ap (λ (xs : Pairs). xs ++ add m) (cond-false (labels_eq l m) (store l ++ add l) (store m) apart.0), back ms apart.1 after all.1)
