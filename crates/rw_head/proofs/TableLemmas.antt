-- A table after a series was staged: in the list of its label set, or in a new one.
use Rattle.std.proofs.Common.{◌≡◌, ℕ, ◌+◌, ◌<◌, ◌≤◌, ◌^◌, Result, Ok, List, [], length, get_or, set, OnErr, Err, Bool, true, false, nat_eq, eqb-true, Some, None, refl, sym, ◌∙◌, ap, subst, arith}
use Rattle.std.proofs.lemmas.List.{length-map}
use Rattle.std.specs.BTreeMap.{get}
use Rattle.rw_types.specs.Labels.{Labels}
use Rattle.rw_types.specs.LabelOrder.{labels_cmp}
use Rattle.rw_write_request.specs.Message.{Sample}
use Rattle.rw_head.specs.Order.{Point, point_of, points, accept}
use Rattle.rw_head.specs.Store.{Store, list_of, with_list}
use Rattle.rw_head.specs.declared.verdict.Verdict.{Verdict}
use Rattle.rw_head.specs.Verdicts.{accepted}
use Rattle.rw_head.specs.Lists.{Lists, no_lists, has_samples}
use Rattle.rw_head.specs.inner.Lists.{IsStagedAt, IsAdded, ListGives, StoreGives, IsSound, HasPlaces, kept_store, staged_store}
use Rattle.rw_head.proofs.PlaceLemmas.{Index, IsSound-added, staged_at, staged_nowhere, staged-set, kept-set, kept-added, staged-added}
use Rattle.rw_head.proofs.shared.StagingLemmas.{IsSound-staged, StoreGives-list, staged-same}

-- It holds what it held, and these points of a label set were staged over what was staged.
pub record Holds (before index : Index) (lists news : List Lists) (touched : List ℕ) (fresh : List Labels) (count staged : ℕ) (r : Result (Unit {0}) Verdict) (l : Labels) (points : List Point) (s : Store) : Type 0 where
  pub sound : IsSound index news touched fresh count staged
  pub kept : kept_store index.entries news ≡ kept_store before.entries lists
  pub gives : StoreGives r (accepted l s (accept (Some (list_of s l)) points)) (staged_store index.entries news)

-- the label set has a place
pub held_at : {before index : Index} {lists news : List Lists} {old reserved touched : List ℕ} {fresh : List Labels} {count staged more n : ℕ} {s : Store} (r : Result (Unit {0}) Verdict) (l : Labels) (points : List Point)
    → index ≡ before → reserved ≡ old → IsSound before lists old fresh count staged → staged_store before.entries lists ≡ s → get labels_cmp before l ≡ Some n → IsStagedAt lists news reserved touched staged more n
    → ListGives r (accept (Some (get_or lists n no_lists).staged) points) (get_or news n no_lists).staged → count + more ≤ 2 ^ 60 → Holds before index lists news touched fresh count more r l points s
held_at {before} {index} {lists} {news} {old} {reserved} {touched} {fresh} {count} {staged} {more} {n} {s} r l points same noted sound view at held gives few =
    let x : Lists = get_or news n no_lists in
    let now : IsSound index lists reserved fresh count staged = subst (λ (ts : List ℕ). IsSound index lists ts fresh count staged) (sym noted) (subst (λ (t : Index). IsSound t lists old fresh count staged) (sym same) sound) in
    let here : get labels_cmp index l ≡ Some n = ap (λ (t : Index). get labels_cmp t l) same ∙ at in
    let list : (get_or lists n no_lists).staged ≡ list_of s l = sym (staged_at before lists l n at) ∙ ap (λ (t : Store). list_of t l) view in
    record {
      sound = IsSound-staged index lists news reserved touched fresh count staged more l n now here held few;
      kept = ap (kept_store index.entries) held.list ∙ kept-set index lists l n x now.places here held.kept ∙ ap (λ (t : Index). kept_store t.entries lists) same;
      gives = StoreGives-list r l s (staged_store index.entries news) (accept (Some (list_of s l)) points) x.staged
          (subst (λ (xs : List Point). ListGives r (accept (Some xs) points) x.staged) list gives)
          (ap (staged_store index.entries) held.list ∙ staged-set index lists l n x now.places here ∙ ap (λ (t : Index). with_list l x.staged (staged_store t.entries lists)) same ∙ ap (with_list l x.staged) view);
    }

-- the label set had no place, and has a new list with the points
pub held_in : {before index new : Index} {lists news : List Lists} {touched noted : List ℕ} {fresh named : List Labels} {count staged : ℕ} {x : Lists} {s : Store} (l : Labels) (points : List Point)
    → index ≡ before → IsSound before lists touched fresh count staged → staged_store before.entries lists ≡ s → get labels_cmp before l ≡ None → IsAdded index new lists news touched noted fresh named l x → x.kept ≡ []
    → has_samples x.staged ≡ true → accept (Some []) points ≡ Some x.staged → count + (staged + length x.staged) ≤ 2 ^ 60 → Holds before new lists news noted named count (staged + length x.staged) (Ok tt) l points s
held_in {before} {index} {new} {lists} {news} {touched} {noted} {fresh} {named} {count} {staged} {x} {s} l points same sound view missing add none some gives few =
    let now : IsSound index lists touched fresh count staged = subst (λ (t : Index). IsSound t lists touched fresh count staged) (sym same) sound in
    let absent : get labels_cmp index l ≡ None = ap (λ (t : Index). get labels_cmp t l) same ∙ missing in
    let empty : list_of s l ≡ [] = ap (λ (t : Store). list_of t l) (sym view) ∙ staged_nowhere before lists l missing in
    let after : staged_store new.entries news ≡ with_list l x.staged s = ap (staged_store new.entries) add.list ∙ staged-added lists index new l x now.places add.place
    ∙ ap (λ (t : Index). with_list l x.staged (staged_store t.entries lists)) same ∙ ap (with_list l x.staged) view in
    record {
      sound = IsSound-added index new lists news touched noted fresh named count staged (staged + length x.staged) l x now absent add none some refl few;
      kept = ap (kept_store new.entries) add.list ∙ kept-added lists index new l x now.places absent none add.place ∙ ap (λ (t : Index). kept_store t.entries lists) same;
      gives = ap (accepted l s) (ap (λ (xs : List Point). accept (Some xs) points) empty ∙ gives) ∙ ap Ok (sym after);
    }

-- Nothing was staged in the list of a label set, if it was refused.
pub held_same : {before index : Index} {lists news : List Lists} {n : ℕ} {s : Store} (r : Result (Unit {0}) Verdict) (l : Labels) → index ≡ before → HasPlaces before lists
    → staged_store before.entries lists ≡ s → get labels_cmp before l ≡ Some n → news ≡ set lists n (get_or news n no_lists)
    → OnErr r ((get_or news n no_lists).staged ≡ (get_or lists n no_lists).staged) → OnErr r (staged_store index.entries news ≡ s)
held_same (Ok u) l same places view at list h = tt
held_same {before} {index} {lists} {news} {n} {s} (Err v) l same places view at list h =
    ap (λ (t : Index). staged_store t.entries news) same ∙ ap (staged_store before.entries) list ∙ staged-set before lists l n (get_or news n no_lists) places at
    ∙ ap (λ (xs : List Point). with_list l xs (staged_store before.entries lists)) (h ∙ sym (staged_at before lists l n at)) ∙ staged-same before lists l ∙ view

-- a number that is not zero
pub is_some : (n : ℕ) → 0 < n → false ≡ nat_eq n 0
is_some n h = by_test (nat_eq n 0) refl
  where
    by_test : (b : Bool) → nat_eq n 0 ≡ b → false ≡ b
    by_test false e = refl
    by_test true e = absurd (omega (arith, h, eqb-true n 0 e))

pub length_points : (ss : List Sample) → length (points ss) ≡ length ss
length_points ss = length-map ss point_of
