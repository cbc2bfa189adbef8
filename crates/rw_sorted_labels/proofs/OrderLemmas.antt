-- Lists in order: those that have the same elements are the same.
use Rattle.std.proofs.Common.{◌≡◌, ℕ, zero, suc, ◌+◌, ◌<◌, ◌≤◌, Bool, true, false, true≢false, not, ◌&&◌, nat_lt, List, [], ◌∷◌, length, map, get_or, sum_by, Option, Some, None, refl, sym, ap, ap₂, ◌∙◌, subst, arith, if◌then◌else◌}
use Rattle.std.specs.List.Sorted.{IsPermutation, IsSorted, IsSortedBy}
use Rattle.std.specs.List.{AllAdjacentBelow, list_all}
use Rattle.std.specs.Cmp.{IsTotalOrder, IsStrictWeakOrder, then_total, on_total, nat_cmp_total}
use Rattle.std.specs.Cmp.Lexicographic.{slice_cmp, lists_total}
use Rattle.std.specs.Ordering.{nat_cmp, ordering_then, ordering_reverse, is_lt}
use Rattle.std.specs.declared.cmp.Ordering.{Ordering}
use Rattle.std.specs.declared.cmp.Ordering.TheVariants.{Less, Equal, Greater}
use Rattle.std.proofs.lemmas.List.{get_or-map, length-map}
use Rattle.std.proofs.lemmas.List.Sums.{sum_by-cons}
use Rattle.std.proofs.lemmas.List.Sorted.{IsPermutation-sym, IsPermutation-trans, sum_by-IsPermutation, sorted_far, ranks_by}
use Rattle.std.proofs.lemmas.Map.Lookups.{CmpEqualImpliesEq, exact_bytes, exact_pairs}
use Rattle.rw_types.specs.Labels.{Label, Labels, IsLabelSet, is_text, is_filled, is_well_named, are_sorted, rise, text_len}
use Rattle.rw_types.specs.LabelOrder.{label_cmp}
use Rattle.rw_types.specs.declared.names.Names.{Names}
use Rattle.rw_types.specs.declared.label_fault.LabelFault.{LabelFault}
use Rattle.rw_types.specs.declared.label_fault.LabelFault.TheVariants.{NotUtf8, EmptyName, BadName, EmptyValue, NotSorted, TooMany, TooLong}
use Rattle.rw_sorted_labels.specs.Sorting.{SortsLabels}

-- what is in order by a part of each element is in order as a list of these parts
pub sorted_map : {A B : Type 0} (f : A → B) (lt : B → B → Bool) (xs : List A) → IsSortedBy (λ x y. lt (f x) (f y)) xs → IsSortedBy lt (map f xs)
sorted_map f lt [] up k d a b = absurd (omega arith)
sorted_map f lt (x ∷ xs) up k d a b =
    let len = length-map (x ∷ xs) f in
    rw (get_or-map f (x ∷ xs) (k + 1) x d (omega (arith, len)), get_or-map f (x ∷ xs) k x d (omega (arith, len))) (up k x a (omega (arith, len)))

-- the same, if each element is not below the one before it, up to the end
pub sorted_to_end : {A B : Type 0} (f : A → B) (lt : B → B → Bool) (xs : List A) (i : ℕ) → length xs ≤ i → AllAdjacentBelow (λ x y. lt (f y) (f x) ≡ false) xs i
    → IsSortedBy lt (map f xs)
sorted_to_end f lt xs i end up = sorted_map f lt xs (λ k d a b. up k d (omega (arith, end)))

-- ---- sums tell the elements of a list
abbrev bit : Bool → ℕ
bit true = 1
bit false = 0

no_bit : (b : Bool) → bit b ≡ 0 → b ≡ false
no_bit true e = absurd (omega (arith, e))
no_bit false e = refl

zero_sum : {X : Type 0} (f : X → ℕ) (xs : List X) → ((k : ℕ) (d : X) → k < length xs → f (get_or xs k d) ≡ 0) → sum_by f xs ≡ 0
zero_sum f [] z = refl
zero_sum f (x ∷ xs) z =
    let first : f x ≡ 0 = z 0 x (omega arith) in
    let rest : sum_by f xs ≡ 0 = zero_sum f xs (λ k d h. z (suc k) d (omega arith)) in
    sum_by-cons f x xs ∙ ap₂ (λ a b. a + b) first rest

abbrev HaveSameSums : {X : Type 0} → List X → List X → Type 0
HaveSameSums {X} xs ys = (f : X → ℕ) → sum_by f xs ≡ sum_by f ys

module _ {X : Type 0} (lt : X → X → Bool) (o : IsStrictWeakOrder lt) where
  -- no element is below the first one
  none_below : (y : X) (ys : List X) → IsSortedBy lt (y ∷ ys) → sum_by (λ z. bit (lt z y)) (y ∷ ys) ≡ 0
  none_below y ys up = zero_sum (λ z. bit (lt z y)) (y ∷ ys) (λ k d h. ap bit (sorted_far lt o (y ∷ ys) up 0 k d (omega arith) h))

  first_not_below : (x y : X) (xs ys : List X) → HaveSameSums (x ∷ xs) (y ∷ ys) → IsSortedBy lt (y ∷ ys) → lt x y ≡ false
  first_not_below x y xs ys same up =
      let f : X → ℕ = λ z. bit (lt z y) in
      let none : f x + sum_by f xs ≡ 0 = sym (sum_by-cons f x xs) ∙ same f ∙ none_below y ys up in
      no_bit (lt x y) (omega (arith, none))

  sorted_tail : (x : X) (xs : List X) → IsSortedBy lt (x ∷ xs) → IsSortedBy lt xs
  sorted_tail x xs up k d a b =
      subst (λ n. lt (get_or (x ∷ xs) n d) (get_or xs k d) ≡ false) {x = suc k + 1} {y = suc (k + 1)} (omega arith) (up (suc k) d (omega arith) (omega arith))

both_tied : (r s : Ordering) → r ≡ ordering_reverse s → is_lt r ≡ false → is_lt s ≡ false → r ≡ Equal
both_tied Less s e a b = absurd (true≢false a)
both_tied Equal s e a b = refl
both_tied Greater Less e a b = absurd (true≢false b)
both_tied Greater Equal e a b = absurd cc
both_tied Greater Greater e a b = absurd cc

module _ {X : Type 0} (R : X → X → Ordering) (o : IsTotalOrder R) (exact : CmpEqualImpliesEq R) where
  sorted_unique : (xs ys : List X) → HaveSameSums xs ys → IsSorted R xs → IsSorted R ys → xs ≡ ys
  sorted_unique [] [] same up down = refl
  sorted_unique [] (y ∷ ys) same up down = absurd (omega (arith, same (λ _. 1), sum_by-cons (λ (_ : X). 1) y ys))
  sorted_unique (x ∷ xs) [] same up down = absurd (omega (arith, same (λ _. 1), sum_by-cons (λ (_ : X). 1) x xs))
  sorted_unique (x ∷ xs) (y ∷ ys) same up down =
      let lt : X → X → Bool = λ a b. is_lt (R a b) in
      let weak : IsStrictWeakOrder lt = ranks_by o (λ a. a) in
      let one = first_not_below lt weak x y xs ys same down in
      let other = first_not_below lt weak y x ys xs (λ f. sym (same f)) up in
      let first : x ≡ y = exact x y (both_tied (R x y) (R y x) (o.antisymm x y) one other) in
      let rest : HaveSameSums xs ys = λ f. omega (arith, same f, sum_by-cons f x xs, sum_by-cons f y ys, ap f first) in
      ap₂ (λ a b. a ∷ b) first (sorted_unique xs ys rest (sorted_tail lt weak x xs up) (sorted_tail lt weak y ys down))

-- ---- labels
label_cmp-total : IsTotalOrder label_cmp
label_cmp-total = then_total (on_total (λ l. l.0) (lists_total nat_cmp_total)) (on_total (λ l. l.1) (lists_total nat_cmp_total))

exact_label : CmpEqualImpliesEq label_cmp
exact_label = exact_pairs (slice_cmp nat_cmp) (slice_cmp nat_cmp) exact_bytes exact_bytes

and_parts : (a b : Bool) → (a && b) ≡ true → (a ≡ true) × (b ≡ true)
and_parts true b e = (refl, e)
and_parts false b e = absurd cc

after_all : (r s t : Ordering) → is_lt r ≡ true → s ≡ ordering_reverse r → is_lt (ordering_then s t) ≡ false
after_all Less s t a e = subst (λ q. is_lt (ordering_then q t) ≡ false) (sym e) refl
after_all Equal s t a e = absurd cc
after_all Greater s t a e = absurd cc

falls : (l m : Label) → rise l m ≡ true → is_lt (label_cmp m l) ≡ false
falls l m up =
    let names = lists_total nat_cmp_total in
    after_all (slice_cmp nat_cmp l.0 m.0) (slice_cmp nat_cmp m.0 l.0) (slice_cmp nat_cmp m.1 l.1) up (names.antisymm m.0 l.0)

rising : (ls : Labels) → are_sorted ls ≡ true → IsSorted label_cmp ls
rising [] e k d a b = absurd (omega arith)
rising (l ∷ []) e k d a b = absurd (omega arith)
rising (l ∷ m ∷ ls) e zero d a b = falls l m (and_parts (rise l m) (are_sorted (m ∷ ls)) e).0
rising (l ∷ m ∷ ls) e (suc k) d a b =
    subst (λ n. is_lt (label_cmp (get_or (l ∷ m ∷ ls) n d) (get_or (m ∷ ls) k d)) ≡ false) {x = suc (k + 1)} {y = suc k + 1} (omega arith)
    (rising (m ∷ ls) (and_parts (rise l m) (are_sorted (m ∷ ls)) e).1 k d (omega arith) (omega arith))

no_fault : (text filled named valued sorted : Bool) (rest : Option LabelFault)
    → (if not text then Some NotUtf8
    else if not filled then Some EmptyName
    else if not named then Some BadName
    else if not valued then Some EmptyValue
    else if not sorted then Some NotSorted
    else rest) ≡ None → sorted ≡ true
no_fault false filled named valued sorted rest e = absurd cc
no_fault true false named valued sorted rest e = absurd cc
no_fault true true false valued sorted rest e = absurd cc
no_fault true true true false sorted rest e = absurd cc
no_fault true true true true false rest e = absurd cc
no_fault true true true true true rest e = refl

set_rises : (names : Names) (ls : Labels) → IsLabelSet names ls → IsSorted label_cmp ls
set_rises names ls e =
    let long : Option LabelFault = if nat_lt 64 (length ls) then Some TooMany else if nat_lt 16384 (text_len ls) then Some TooLong else None in
    rising ls (no_fault (list_all is_text ls) (list_all (λ l. is_filled l.0) ls) (list_all (is_well_named names) ls) (list_all (λ l. is_filled l.1) ls) (are_sorted ls) long e)

pub found : (names : Names) (before after set : Labels) → SortsLabels before after → IsPermutation before set → IsLabelSet names set → after ≡ set
found names before after set sorts same is =
    let moved = IsPermutation-trans after before set (IsPermutation-sym before after sorts.same) same in
    sorted_unique label_cmp label_cmp-total exact_label after set (λ f. sym (sum_by-IsPermutation f after set moved)) sorts.sorted (set_rises names set is)
