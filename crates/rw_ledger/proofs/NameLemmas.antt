-- Names in the order of their positions: the place of a position, and a name put there.
use Rattle.std.proofs.Common.{◌≡◌, ℕ, zero, suc, ◌<◌, ◌≤◌, List, [], ◌∷◌, length, get_or, Bool, true, false, cond, ◌&&◌, T, Option, Some, None, refl, sym, ap, ◌∙◌, subst, arith, inl, inr}
use Rattle.std.proofs.lemmas.Bool.{cases_lt}
use Rattle.std.specs.List.{insert}
use Rattle.std.specs.List.Sorted.{IsNonDecreasingBy}
use Rattle.std.specs.Ordering.{nat_cmp, is_lt, is_eq}
use Rattle.std.specs.Cmp.{ranked, nat_cmp_is, nat_cmp_total}
use Rattle.std.specs.declared.cmp.Ordering.{Ordering}
use Rattle.std.specs.declared.cmp.Ordering.TheVariants.{Less, Equal, Greater}
use Rattle.std.specs.FinMap as map
use Rattle.std.specs.FinMap.{is_sorted, find, put, same_entries_map, entries-from_sorted, entries-insert}
use Rattle.std.specs.FinMap.Entries.{below_all, by_order, is_sorted-put}

pub as_test : (b : Bool) → b ≡ true → T b
as_test b e = subst T (sym e) tt

as_equation : (b : Bool) → T b → b ≡ true
as_equation true h = refl
as_equation false h = absurd h

both_parts : (a b : Bool) → T (a && b) → T a × T b
both_parts true b h = (tt, h)
both_parts false b h = absurd h

less_from_is : (x y : ℕ) (r : Ordering) → r ≡ nat_cmp x y → T (is_lt r) → x < y
less_from_is x y Less e h = ranked x y Less e
less_from_is x y Equal e h = absurd h
less_from_is x y Greater e h = absurd h

below_from_cmp : (x y : ℕ) → T (is_lt (nat_cmp x y)) → x < y
below_from_cmp x y h = less_from_is x y (nat_cmp x y) refl h

eq_of : (p q : ℕ) (r : Ordering) → r ≡ nat_cmp p q → (p ≡ q → ⊥) → is_eq r ≡ false
eq_of p q Less e apart = refl
eq_of p q Equal e apart = absurd (apart (ranked p q Equal e))
eq_of p q Greater e apart = refl

pub above : (a b : ℕ) → a ≤ b → (b ≡ a → ⊥) → a < b
above a b le apart = omega arith

module _ {X : Type 0} where
  -- a position that is below all positions of a list
  below_each : (p : ℕ) (es : List (ℕ × X)) (k : ℕ) (d : ℕ × X) → T (below_all nat_cmp p es) → k < length es → p < (get_or es k d).0
  below_each p [] k d h lt = absurd (omega arith)
  below_each p (e ∷ es) zero d h lt = below_from_cmp p e.0 (both_parts _ _ h).0
  below_each p (e ∷ es) (suc k) d h lt = below_each p es k d (both_parts _ _ h).1 (omega arith)

  -- the positions rise
  pub rises : (es : List (ℕ × X)) → T (is_sorted nat_cmp es) → IsNonDecreasingBy (λ (e : ℕ × X). e.0) es
  rises [] h i j d le lt = absurd (omega arith)
  rises (e ∷ es) h zero zero d le lt = omega arith
  rises (e ∷ es) h zero (suc j) d le lt = let below = below_each e.0 es j d (both_parts _ _ h).0 (omega arith) in omega arith
  rises (e ∷ es) h (suc i) zero d le lt = absurd (omega arith)
  rises (e ∷ es) h (suc i) (suc j) d le lt = rises es (both_parts _ _ h).1 i j d (omega arith) (omega arith)

  in_front : (p : ℕ) (x : X) (e : ℕ × X) (es : List (ℕ × X)) (r : Ordering) → r ≡ Less → by_order r ((p, x) ∷ e ∷ es) ((e.0, x) ∷ es) (e ∷ put nat_cmp p x es) ≡ (p, x) ∷ e ∷ es
  in_front p x e es r is = ap (λ o. by_order o ((p, x) ∷ e ∷ es) ((e.0, x) ∷ es) (e ∷ put nat_cmp p x es)) is

  behind : (p : ℕ) (x : X) (e : ℕ × X) (es : List (ℕ × X)) (r : Ordering) → r ≡ Greater → by_order r ((p, x) ∷ e ∷ es) ((e.0, x) ∷ es) (e ∷ put nat_cmp p x es) ≡ e ∷ put nat_cmp p x es
  behind p x e es r is = ap (λ o. by_order o ((p, x) ∷ e ∷ es) ((e.0, x) ∷ es) (e ∷ put nat_cmp p x es)) is

  -- a new position goes if those before it are lower and the others higher
  insert_is_put : (es : List (ℕ × X)) (p : ℕ) (x : X) (i : ℕ) → i ≤ length es → ((k : ℕ) (d : ℕ × X) → k < i → (get_or es k d).0 < p) → ((k : ℕ) (d : ℕ × X) → i ≤ k → k < length es → p < (get_or es k d).0)
      → insert es i (p, x) ≡ put nat_cmp p x es
  insert_is_put [] p x zero within before after = refl
  insert_is_put [] p x (suc i) within before after = absurd (omega arith)
  insert_is_put (e ∷ es) p x zero within before after =
      sym (in_front p x e es (nat_cmp p e.0) (sym (nat_cmp_is p e.0 Less (after 0 e (omega arith) (omega arith)))))
  insert_is_put (e ∷ es) p x (suc i) within before after =
      ap (λ r. e ∷ r) (insert_is_put es p x i (omega arith) (λ k d lt. before (suc k) d (omega arith)) (λ k d le lt. after (suc k) d (omega arith) (omega arith)))
      ∙ sym (behind p x e es (nat_cmp p e.0) (sym (nat_cmp_is p e.0 Greater (before 0 e (omega arith)))))

  -- a position at which nothing is
  find_none : (es : List (ℕ × X)) (p : ℕ) → ((k : ℕ) (d : ℕ × X) → k < length es → (get_or es k d).0 ≡ p → ⊥) → find nat_cmp p es ≡ None
  find_none [] p apart = refl
  find_none (e ∷ es) p apart =
      ap (λ b. cond b (Some e.1) (find nat_cmp p es)) (eq_of p e.0 (nat_cmp p e.0) refl (λ same. apart 0 e (omega arith) (sym same)))
      ∙ find_none es p (λ k d lt same. apart (suc k) d (omega arith) same)

  -- the position that is at the place after all lower ones
  find_at : (es : List (ℕ × X)) (p i : ℕ) (d : ℕ × X) → i < length es → ((k : ℕ) (d : ℕ × X) → k < i → (get_or es k d).0 < p) → (get_or es i d).0 ≡ p → find nat_cmp p es ≡ Some (get_or es i d).1
  find_at [] p i d lt before here = absurd (omega arith)
  find_at (e ∷ es) p zero d lt before here = ap (λ r. cond (is_eq r) (Some e.1) (find nat_cmp p es)) (sym (nat_cmp_is p e.0 Equal (sym here)))
  find_at (e ∷ es) p (suc i) d lt before here =
      ap (λ r. cond (is_eq r) (Some e.1) (find nat_cmp p es)) (sym (nat_cmp_is p e.0 Greater (before 0 e (omega arith))))
      ∙ find_at es p i d (omega arith) (λ k q le. before (suc k) q (omega arith)) here

  rest_none : (b : Bool) (x : X) (o : Option X) → cond b (Some x) o ≡ None → o ≡ None
  rest_none true x o e = absurd cc
  rest_none false x o e = e

  -- a position that is not found is nowhere
  apart_from_none : (es : List (ℕ × X)) (p k : ℕ) (d : ℕ × X) → find nat_cmp p es ≡ None → k < length es → (get_or es k d).0 ≡ p → ⊥
  apart_from_none [] p k d none lt same = omega arith
  apart_from_none (e ∷ es) p zero d none lt same =
      let found : find nat_cmp p (e ∷ es) ≡ Some e.1 = ap (λ r. cond (is_eq r) (Some e.1) (find nat_cmp p es)) (sym (nat_cmp_is p e.0 Equal (sym same))) in
      let clash : Some e.1 ≡ None = sym found ∙ none in absurd cc
  apart_from_none (e ∷ es) p (suc k) d none lt same = apart_from_none es p k d (rest_none _ e.1 (find nat_cmp p es) none) (omega arith) same

  -- a position that is not named goes to its place
  pub put_at_place : (es : List (ℕ × X)) (p : ℕ) (x : X) (i : ℕ) → find nat_cmp p es ≡ None → i ≤ length es → ((k : ℕ) (d : ℕ × X) → k < i → (get_or es k d).0 < p)
      → ((k : ℕ) (d : ℕ × X) → i ≤ k → k < length es → p ≤ (get_or es k d).0) → insert es i (p, x) ≡ put nat_cmp p x es
  put_at_place es p x i none within before after =
      insert_is_put es p x i within before (λ k d le lt. above p (get_or es k d).0 (after k d le lt) (apart_from_none es p k d none lt))

  -- and the names stay in order
  pub sorted_with : (es ns : List (ℕ × X)) (p : ℕ) (x : X) → T (is_sorted nat_cmp es) → ns ≡ put nat_cmp p x es → is_sorted nat_cmp ns ≡ true
  sorted_with es ns p x sorted e = ap (is_sorted nat_cmp) e ∙ as_equation _ (is_sorted-put nat_cmp nat_cmp_total p x es sorted)

  pub map_with : (es ns : List (ℕ × X)) (p : ℕ) (x : X) → T (is_sorted nat_cmp es) → ns ≡ put nat_cmp p x es → map.from_sorted {R = nat_cmp} ns ≡ map.insert (map.from_sorted es) p x
  map_with es ns p x sorted e =
      same_entries_map _ _
      (entries-from_sorted nat_cmp ns (as_test _ (sorted_with es ns p x sorted e)) ∙ e ∙ ap (put nat_cmp p x) (sym (entries-from_sorted nat_cmp es sorted)) ∙ sym (entries-insert nat_cmp_total (map.from_sorted es) p x))

  -- a named position is found at its place
  pub found_at_place : (es : List (ℕ × X)) (p i : ℕ) (e : ℕ × X) → i < length es → ((k : ℕ) (d : ℕ × X) → k < i → (get_or es k d).0 < p) → e ≡ get_or es i e → e.0 ≡ p → find nat_cmp p es ≡ Some e.1
  found_at_place es p i e lt before is here =
      find_at es p i e lt before (ap (λ (x : ℕ × X). x.0) (sym is) ∙ here) ∙ ap (λ (x : ℕ × X). Some x.1) (sym is)

  -- and one that is not at its place is nowhere
  pub none_at_place : (es : List (ℕ × X)) (p i : ℕ) → T (is_sorted nat_cmp es) → ((k : ℕ) (d : ℕ × X) → k < i → (get_or es k d).0 < p) → ((d : ℕ × X) → i < length es → p < (get_or es i d).0) → find nat_cmp p es ≡ None
  none_at_place es p i sorted before here =
      find_none es p
      (λ k d lt same. elim (cases_lt k i) [
        | inl low ↦ absurd (let b = before k d low in omega arith)
        | inr high ↦ absurd (let h = here d (omega arith) in let r = rises es sorted i k d high lt in omega arith)
      ])
