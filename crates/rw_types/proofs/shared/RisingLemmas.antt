-- Lists that rise: their parts, and what is at their places.
use Rattle.std.proofs.Common.{◌≡◌, ℕ, zero, suc, ◌<◌, Bool, true, false, cond, List, [], ◌∷◌, ◌++◌, take, length, get_or, slice_get, Some, subst, arith}
use Rattle.std.proofs.lemmas.Option.{same_Some}
use Rattle.std.specs.Prelude.{filter}
use Rattle.std.specs.List.{AllByRecursion}
use Rattle.rw_types.specs.Rising.{Rises}
use Rattle.rw_types.proofs.shared.AllLemmas.{AllByRecursion-at, AllByRecursion-filter, AllByRecursion-get, AllByRecursion-left, AllByRecursion-push, AllByRecursion-right, AllByRecursion-take}

module _ {X : Type 0} (before : X → X → Type 0) where
  pub Rises-left : (xs ys : List X) → Rises before (xs ++ ys) → Rises before xs
  Rises-left [] ys h = tt
  Rises-left (x ∷ xs) ys h = (AllByRecursion-left (before x) xs ys h.0, Rises-left xs ys h.1)

  pub Rises-right : (xs ys : List X) → Rises before (xs ++ ys) → Rises before ys
  Rises-right [] ys h = h
  Rises-right (x ∷ xs) ys h = Rises-right xs ys h.1

  -- each of the first part is before each of the second
  pub Rises-across : (xs ys : List X) → Rises before (xs ++ ys) → AllByRecursion (λ x. AllByRecursion (before x) ys) xs
  Rises-across [] ys h = tt
  Rises-across (x ∷ xs) ys h = (AllByRecursion-right (before x) xs ys h.0, Rises-across xs ys h.1)

  -- after all others one more may be
  pub Rises-push : (xs : List X) (x : X) → Rises before xs → AllByRecursion (λ y. before y x) xs → Rises before (xs ++ x ∷ [])
  Rises-push [] x h all = (tt, tt)
  Rises-push (y ∷ xs) x h all = (AllByRecursion-push (before y) xs x h.0 all.0, Rises-push xs x h.1 all.1)

  pub Rises-take : (n : ℕ) (xs : List X) → Rises before xs → Rises before (take n xs)
  Rises-take zero xs h = tt
  Rises-take (suc n) [] h = tt
  Rises-take (suc n) (x ∷ xs) h = (AllByRecursion-take (before x) n xs h.0, Rises-take n xs h.1)

  rises_cond : (b : Bool) (x : X) (xs : List X) → AllByRecursion (before x) xs → Rises before xs → Rises before (cond b (x ∷ xs) xs)
  rises_cond true x xs all h = (all, h)
  rises_cond false x xs all h = h

  pub Rises-filter : (p : X → Bool) (xs : List X) → Rises before xs → Rises before (filter p xs)
  Rises-filter p [] h = tt
  Rises-filter p (x ∷ xs) h = rises_cond (p x) x (filter p xs) (AllByRecursion-filter (before x) p xs h.0) (Rises-filter p xs h.1)

  -- of two places the earlier has what is before
  pub Rises-at : (xs : List X) (j k : ℕ) (d : X) → Rises before xs → j < k → k < length xs → before (get_or xs j d) (get_or xs k d)
  Rises-at [] j k d h lt within = absurd (omega arith)
  Rises-at (x ∷ xs) j zero d h lt within = absurd (omega arith)
  Rises-at (x ∷ xs) zero (suc k) d h lt within = AllByRecursion-at (before x) xs k d h.0 (omega arith)
  Rises-at (x ∷ xs) (suc j) (suc k) d h lt within = Rises-at xs j k d h.1 (omega arith) (omega arith)

  pub Rises-get : (xs : List X) (j k : ℕ) (x y : X) → Rises before xs → j < k → slice_get xs j ≡ Some x → slice_get xs k ≡ Some y → before x y
  Rises-get [] j k x y h lt a b = absurd cc
  Rises-get (z ∷ xs) j zero x y h lt a b = absurd (omega arith)
  Rises-get (z ∷ xs) zero (suc k) x y h lt a b = subst (λ w. before w y) (same_Some z x a) (AllByRecursion-get (before z) xs k y h.0 b)
  Rises-get (z ∷ xs) (suc j) (suc k) x y h lt a b = Rises-get xs j k x y h.1 (omega arith) a b
