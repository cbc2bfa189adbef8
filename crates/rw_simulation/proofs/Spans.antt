-- A list that was made part by part, each part for an element of another list.
use Rattle.std.proofs.Common.{◌≡◌, ◌⊎◌, inl, inr, ℕ, zero, suc, ◌+◌, ◌-◌, ◌<◌, ◌≤◌, nat_lt, Bool, cond, List, [], ◌∷◌, ◌++◌, length, Some, slice_get, refl, sym, ap, ◌∙◌, subst, append_assoc, append-nil, arith}
use Rattle.std.proofs.lemmas.Bool.{lt-ltb, le-ltb}
use Rattle.std.proofs.lemmas.Option.{same_Some, none-some, slice_get_within}
use Rattle.rw_restarts.proofs.shared.ListLemmas.{get-first, get-within}

-- for which element the j-th one was made, by the lengths of the parts
abbrev pub number_of : List ℕ → ℕ → ℕ
number_of [] j = 0
number_of (n ∷ ns) j = cond (nat_lt j n) 0 (suc (number_of ns (j - n)))

-- the second list is the parts made for the first one's elements, which have these lengths
abbrev pub AreMade : {X Y : Type 0} → (X → List Y → Type 0) → List X → List ℕ → List Y → Type 0
AreMade Made [] [] ys = ys ≡ []
AreMade Made [] (n ∷ ns) ys = ⊥
AreMade Made (x ∷ xs) [] ys = ⊥
AreMade {X} {Y} Made (x ∷ xs) (n ∷ ns) ys = (mine : List Y) × (rest : List Y) × (length mine ≡ n) × (ys ≡ mine ++ rest) × Made x mine × AreMade Made xs ns rest

moved : {Y : Type 0} (ys : List Y) (i j : ℕ) (y : Y) → i ≡ j → slice_get ys i ≡ Some y → slice_get ys j ≡ Some y
moved ys i j y e at = subst (λ k. slice_get ys k ≡ Some y) e at

-- where the j-th element of two lists is, if the first one has no place j
in_second : {Y : Type 0} (xs ys : List Y) (j : ℕ) (y : Y) → slice_get (xs ++ ys) j ≡ Some y → length xs ≤ j → slice_get ys (j - length xs) ≡ Some y
in_second [] ys j y e le = moved ys j (j - 0) y (omega arith) e
in_second (x ∷ xs) ys zero y e le = absurd (omega arith)
in_second (x ∷ xs) ys (suc j) y e le = moved ys (j - length xs) (suc j - suc (length xs)) y (omega arith) (in_second xs ys j y e (omega arith))

from_second : {Y : Type 0} (xs ys : List Y) (j : ℕ) (y : Y) → slice_get ys j ≡ Some y → slice_get (xs ++ ys) (length xs + j) ≡ Some y
from_second [] ys j y e = moved ys j (0 + j) y (omega arith) e
from_second (x ∷ xs) ys j y e = moved (x ∷ xs ++ ys) (suc (length xs + j)) (suc (length xs) + j) y (omega arith) (from_second xs ys j y e)

order : (j n : ℕ) → (j < n) ⊎ (n ≤ j)
order j zero = inr (omega arith)
order zero (suc n) = inl (omega arith)
order (suc j) (suc n) = up (order j n)
  where
    up : (j < n) ⊎ (n ≤ j) → (suc j < suc n) ⊎ (suc n ≤ suc j)
    up (inl lt) = inl (omega arith)
    up (inr le) = inr (omega arith)

-- later ones are made for later elements, or for the same
pub number_le : (ns : List ℕ) (i j : ℕ) → i ≤ j → number_of ns i ≤ number_of ns j
number_le [] i j le = omega arith
number_le (n ∷ ns) i j le = by_order (order i n) (order j n) (number_le ns (i - n) (j - n) (omega arith))
  where
    by_order : (i < n) ⊎ (n ≤ i) → (j < n) ⊎ (n ≤ j) → number_of ns (i - n) ≤ number_of ns (j - n) → cond (nat_lt i n) 0 (suc (number_of ns (i - n))) ≤ cond (nat_lt j n) 0 (suc (number_of ns (j - n)))
    by_order (inl lt) any h = subst (λ (b : Bool). cond b 0 (suc (number_of ns (i - n))) ≤ cond (nat_lt j n) 0 (suc (number_of ns (j - n)))) (sym (lt-ltb i n lt)) (omega arith)
    by_order (inr a) (inl b) h = absurd (omega (arith, le))
    by_order (inr a) (inr b) h = subst (λ (t : Bool). cond (nat_lt i n) 0 (suc (number_of ns (i - n))) ≤ cond t 0 (suc (number_of ns (j - n)))) (sym (le-ltb j n b)) (subst (λ (t : Bool). cond t 0 (suc (number_of ns (i - n))) ≤ suc (number_of ns (j - n))) (sym (le-ltb i n a)) (omega (arith, h)))

pub number_lt : (ns : List ℕ) (i j : ℕ) → number_of ns i < number_of ns j → i < j
number_lt ns i j lt = by_order (order i j)
  where
    by_order : (i < j) ⊎ (j ≤ i) → i < j
    by_order (inl less) = less
    by_order (inr le) = let h = number_le ns j i le in absurd (omega arith)

module _ {X Y : Type 0} (Made : X → List Y → Type 0) where
  pub made_next : (xs : List X) (ns : List ℕ) (ys : List Y) (x : X) (mine : List Y) → AreMade Made xs ns ys → Made x mine → AreMade Made (xs ++ x ∷ []) (ns ++ length mine ∷ []) (ys ++ mine)
  made_next [] [] ys x mine e m = (mine, [], refl, ap (λ zs. zs ++ mine) e ∙ sym (append-nil mine), m, refl)
  made_next [] (n ∷ ns) ys x mine e m = absurd e
  made_next (z ∷ zs) [] ys x mine e m = absurd e
  made_next (z ∷ zs) (n ∷ ns) ys x mine e m = (e.0, e.1 ++ mine, e.2, ap (λ l. l ++ mine) e.3 ∙ append_assoc e.0 e.1 mine, e.4, made_next zs ns e.1 x mine e.5 m)

  -- the j-th one was made for an element, and is of its part
  pub record IsMadeFor (xs : List X) (ns : List ℕ) (j : ℕ) (y : Y) : Type 0 where
    pub x : X
    pub mine : List Y
    pub at : slice_get xs (number_of ns j) ≡ Some x
    pub made : Made x mine
    pub k : ℕ
    pub among : slice_get mine k ≡ Some y

  pub made_for : (xs : List X) (ns : List ℕ) (ys : List Y) (j : ℕ) (y : Y) → AreMade Made xs ns ys → slice_get ys j ≡ Some y → IsMadeFor xs ns j y
  made_for [] [] ys j y e at = absurd (none-some y (ap (λ l. slice_get l j) (sym e) ∙ at))
  made_for [] (n ∷ ns) ys j y e at = absurd e
  made_for (x ∷ xs) [] ys j y e at = absurd e
  made_for (x ∷ xs) (n ∷ ns) ys j y e at = by_order (order j n) (λ le. made_for xs ns e.1 (j - n) y e.5 (later le))
    where
      there : slice_get (e.0 ++ e.1) j ≡ Some y
      there = ap (λ l. slice_get l j) (sym e.3) ∙ at

      later : n ≤ j → slice_get e.1 (j - n) ≡ Some y
      later le = ap (λ m. slice_get e.1 (j - m)) (sym e.2) ∙ in_second e.0 e.1 j y there (subst (λ m. m ≤ j) (sym e.2) le)

      by_order : (j < n) ⊎ (n ≤ j) → (n ≤ j → IsMadeFor xs ns (j - n) y) → IsMadeFor (x ∷ xs) (n ∷ ns) j y
      by_order (inl lt) go = record {
        x = x;
        mine = e.0;
        at = ap (λ (b : Bool). slice_get (x ∷ xs) (cond b 0 (suc (number_of ns (j - n))))) (lt-ltb j n lt);
        made = e.4;
        k = j;
        among = get-within e.0 e.1 j y there (subst (λ m. j < m) (sym e.2) lt);
      }
      by_order (inr le) go = let h = go le in record {
        x = h.x;
        mine = h.mine;
        at = ap (λ (b : Bool). slice_get (x ∷ xs) (cond b 0 (suc (number_of ns (j - n))))) (le-ltb j n le) ∙ h.at;
        made = h.made;
        k = h.k;
        among = h.among;
      }

  -- the part that was made for an element is in the list
  pub record HasPart (ns : List ℕ) (ys : List Y) (i : ℕ) (x : X) : Type 0 where
    pub mine : List Y
    pub made : Made x mine
    pub each : (k : ℕ) (y : Y) → slice_get mine k ≡ Some y → (j : ℕ) × (slice_get ys j ≡ Some y) × (number_of ns j ≡ i)

  pub part_of : (xs : List X) (ns : List ℕ) (ys : List Y) (i : ℕ) (x : X) → AreMade Made xs ns ys → slice_get xs i ≡ Some x → HasPart ns ys i x
  part_of [] ns ys i x e at = absurd (none-some x at)
  part_of (z ∷ zs) [] ys i x e at = absurd e
  part_of (z ∷ zs) (n ∷ ns) ys zero x e at = record {
    mine = e.0;
    made = subst (λ w. Made w e.0) (same_Some z x at) e.4;
    each = λ k y here. (k, ap (λ l. slice_get l k) e.3 ∙ get-first e.0 e.1 k y here, ap (λ (b : Bool). cond b 0 (suc (number_of ns (k - n)))) (lt-ltb k n (subst (λ m. k < m) e.2 (slice_get_within e.0 k y here))));
  }
  part_of (z ∷ zs) (n ∷ ns) ys (suc i) x e at = let h = part_of zs ns e.1 i x e.5 at in record {
    mine = h.mine;
    made = h.made;
    each = λ k y here. let f = h.each k y here in (
      length e.0 + f.0,
      ap (λ l. slice_get l (length e.0 + f.0)) e.3 ∙ from_second e.0 e.1 f.0 y f.1,
      ap (λ (b : Bool). cond b 0 (suc (number_of ns (length e.0 + f.0 - n)))) (le-ltb (length e.0 + f.0) n (omega (arith, e.2)))
          ∙ ap suc (ap (number_of ns) (back (length e.0) n f.0 e.2) ∙ f.2),
    );
  }
    where
      back : (a n j : ℕ) → a ≡ n → a + j - n ≡ j
      back a n j e = omega arith
