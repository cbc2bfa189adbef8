-- The places of the elements of a list that pass a test.
use Rattle.std.proofs.Common.{◌≡◌, ◌⊎◌, inl, inr, ℕ, zero, suc, ◌<◌, ◌≤◌, Bool, true, false, cond, List, [], ◌∷◌, filter, take, length, Some, slice_get, refl, sym, ap, ◌∙◌, arith}
use Rattle.std.proofs.lemmas.Option.{same_Some, none-some}

module _ {X : Type 0} (p : X → Bool) where
  -- how many of the first n pass
  abbrev pub passed : List X → ℕ → ℕ
  passed xs n = length (filter p (take n xs))

  -- the element is the j-th one that passes
  pub record IsAt (xs : List X) (j : ℕ) (x : X) : Type 0 where
    pub n : ℕ
    pub at : slice_get xs n ≡ Some x
    pub passes : p x ≡ true
    pub count : passed xs n ≡ j

  pub place : (xs : List X) (j : ℕ) (x : X) → slice_get (filter p xs) j ≡ Some x → IsAt xs j x
  place [] j x e = absurd (none-some x e)
  place (y ∷ ys) j x e = by_test (p y) refl j e (λ i f. place ys i x f)
    where
      by_test : (b : Bool) → p y ≡ b → (j : ℕ) → slice_get (cond b (y ∷ filter p ys) (filter p ys)) j ≡ Some x → ((i : ℕ) → slice_get (filter p ys) i ≡ Some x → IsAt ys i x) → IsAt (y ∷ ys) j x
      by_test true q zero e go = record { n = 0; at = e; passes = ap p (sym (same_Some y x e)) ∙ q; count = refl }
      by_test true q (suc j) e go = let h = go j e in record { n = suc h.n; at = h.at; passes = h.passes; count = ap (λ b. length (cond b (y ∷ filter p (take h.n ys)) (filter p (take h.n ys)))) q ∙ ap suc h.count }
      by_test false q j e go = let h = go j e in record { n = suc h.n; at = h.at; passes = h.passes; count = ap (λ b. length (cond b (y ∷ filter p (take h.n ys)) (filter p (take h.n ys)))) q ∙ h.count }

  pub passes_at : (xs : List X) (n : ℕ) (x : X) → slice_get xs n ≡ Some x → p x ≡ true → slice_get (filter p xs) (passed xs n) ≡ Some x
  passes_at [] n x e q = absurd (none-some x e)
  passes_at (y ∷ ys) zero x e q = ap (λ b. slice_get (cond b (y ∷ filter p ys) (filter p ys)) 0) (ap p (same_Some y x e) ∙ q) ∙ e
  passes_at (y ∷ ys) (suc n) x e q = by_test (p y) (passes_at ys n x e q)
    where
      by_test : (b : Bool) → slice_get (filter p ys) (passed ys n) ≡ Some x → slice_get (cond b (y ∷ filter p ys) (filter p ys)) (length (cond b (y ∷ filter p (take n ys)) (filter p (take n ys)))) ≡ Some x
      by_test true h = h
      by_test false h = h

  pub passed_next : (xs : List X) (n : ℕ) (x : X) → slice_get xs n ≡ Some x → p x ≡ true → passed xs (suc n) ≡ suc (passed xs n)
  passed_next [] n x e q = absurd (none-some x e)
  passed_next (y ∷ ys) zero x e q = ap (λ b. length (cond b (y ∷ []) [])) (ap p (same_Some y x e) ∙ q)
  passed_next (y ∷ ys) (suc n) x e q = by_test (p y) (passed_next ys n x e q)
    where
      by_test : (b : Bool) → passed ys (suc n) ≡ suc (passed ys n) → length (cond b (y ∷ filter p (take (suc n) ys)) (filter p (take (suc n) ys))) ≡ suc (length (cond b (y ∷ filter p (take n ys)) (filter p (take n ys))))
      by_test true h = ap suc h
      by_test false h = h

  pub passed_le : (xs : List X) (n m : ℕ) → n ≤ m → passed xs n ≤ passed xs m
  passed_le xs zero m le = omega arith
  passed_le [] (suc n) m le = omega arith
  passed_le (y ∷ ys) (suc n) zero le = absurd (omega arith)
  passed_le (y ∷ ys) (suc n) (suc m) le = by_test (p y) (passed_le ys n m (omega arith))
    where
      by_test : (b : Bool) → passed ys n ≤ passed ys m → length (cond b (y ∷ filter p (take n ys)) (filter p (take n ys))) ≤ length (cond b (y ∷ filter p (take m ys)) (filter p (take m ys)))
      by_test true h = omega arith
      by_test false h = h

  pub passed_lt : (xs : List X) (n m : ℕ) → passed xs n < passed xs m → n < m
  passed_lt xs n m lt = by_order (order m n)
    where
      order : (m n : ℕ) → (m ≤ n) ⊎ (n < m)
      order zero n = inl (omega arith)
      order (suc m) zero = inr (omega arith)
      order (suc m) (suc n) = up (order m n)
        where
          up : (m ≤ n) ⊎ (n < m) → (suc m ≤ suc n) ⊎ (suc n < suc m)
          up (inl le) = inl (omega arith)
          up (inr lt) = inr (omega arith)

      by_order : (m ≤ n) ⊎ (n < m) → n < m
      by_order (inl le) = let h = passed_le xs m n le in absurd (omega arith)
      by_order (inr less) = less

  -- one place of each
  pub one_place : (xs : List X) (n m : ℕ) (x y : X) → slice_get xs n ≡ Some x → slice_get xs m ≡ Some y → p x ≡ true → p y ≡ true → passed xs n ≡ passed xs m → n ≡ m
  one_place xs n m x y at there px py same = by_both (passed_lt xs m (suc n) (let h = passed_next xs n x at px in omega arith)) (passed_lt xs n (suc m) (let h = passed_next xs m y there py in omega arith))
    where
      by_both : m < suc n → n < suc m → n ≡ m
      by_both a b = omega arith
