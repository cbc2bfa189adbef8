-- A fact about each element of a list, for its parts and at its places.
use Rattle.std.proofs.Common.{◌≡◌, ℕ, zero, suc, ◌<◌, Bool, true, false, cond, List, [], ◌∷◌, ◌++◌, take, map, length, get_or, slice_get, Some, refl, subst, arith}
use Rattle.std.proofs.lemmas.Option.{same_Some}
use Rattle.std.specs.Prelude.{filter}
use Rattle.std.specs.List.{AllByRecursion}

module _ {X : Type 0} (P : X → Type 0) where
  pub AllByRecursion-left : (xs ys : List X) → AllByRecursion P (xs ++ ys) → AllByRecursion P xs
  AllByRecursion-left [] ys all = tt
  AllByRecursion-left (x ∷ xs) ys all = (all.0, AllByRecursion-left xs ys all.1)

  pub AllByRecursion-right : (xs ys : List X) → AllByRecursion P (xs ++ ys) → AllByRecursion P ys
  AllByRecursion-right [] ys all = all
  AllByRecursion-right (x ∷ xs) ys all = AllByRecursion-right xs ys all.1

  pub AllByRecursion-append : (xs ys : List X) → AllByRecursion P xs → AllByRecursion P ys → AllByRecursion P (xs ++ ys)
  AllByRecursion-append [] ys all rest = rest
  AllByRecursion-append (x ∷ xs) ys all rest = (all.0, AllByRecursion-append xs ys all.1 rest)

  pub AllByRecursion-push : (xs : List X) (x : X) → AllByRecursion P xs → P x → AllByRecursion P (xs ++ x ∷ [])
  AllByRecursion-push [] x all h = (h, tt)
  AllByRecursion-push (y ∷ ys) x all h = (all.0, AllByRecursion-push ys x all.1 h)

  pub AllByRecursion-take : (n : ℕ) (xs : List X) → AllByRecursion P xs → AllByRecursion P (take n xs)
  AllByRecursion-take zero xs all = tt
  AllByRecursion-take (suc n) [] all = tt
  AllByRecursion-take (suc n) (x ∷ xs) all = (all.0, AllByRecursion-take n xs all.1)

  all_cond : (b : Bool) (x : X) (xs : List X) → P x → AllByRecursion P xs → AllByRecursion P (cond b (x ∷ xs) xs)
  all_cond true x xs h all = (h, all)
  all_cond false x xs h all = all

  pub AllByRecursion-filter : (p : X → Bool) (xs : List X) → AllByRecursion P xs → AllByRecursion P (filter p xs)
  AllByRecursion-filter p [] all = tt
  AllByRecursion-filter p (x ∷ xs) all = all_cond (p x) x (filter p xs) all.0 (AllByRecursion-filter p xs all.1)

  pub AllByRecursion-at : (xs : List X) (k : ℕ) (d : X) → AllByRecursion P xs → k < length xs → P (get_or xs k d)
  AllByRecursion-at [] k d all lt = absurd (omega arith)
  AllByRecursion-at (x ∷ xs) zero d all lt = all.0
  AllByRecursion-at (x ∷ xs) (suc k) d all lt = AllByRecursion-at xs k d all.1 (omega arith)

  pub AllByRecursion-get : (xs : List X) (k : ℕ) (x : X) → AllByRecursion P xs → slice_get xs k ≡ Some x → P x
  AllByRecursion-get [] k x all e = absurd cc
  AllByRecursion-get (y ∷ xs) zero x all e = subst P (same_Some y x e) all.0
  AllByRecursion-get (y ∷ xs) (suc k) x all e = AllByRecursion-get xs k x all.1 e

  pub AllByRecursion-weaker : (Q : X → Type 0) → ((x : X) → P x → Q x) → (xs : List X) → AllByRecursion P xs → AllByRecursion Q xs
  AllByRecursion-weaker Q weaker [] all = tt
  AllByRecursion-weaker Q weaker (x ∷ xs) all = (weaker x all.0, AllByRecursion-weaker Q weaker xs all.1)

  pub AllByRecursion-from_get : (xs : List X) → ((k : ℕ) (x : X) → slice_get xs k ≡ Some x → P x) → AllByRecursion P xs
  AllByRecursion-from_get [] each = tt
  AllByRecursion-from_get (x ∷ xs) each = (each 0 x refl, AllByRecursion-from_get xs (λ k. each (suc k)))

pub AllByRecursion-map : {X Y : Type 0} (P : Y → Type 0) (f : X → Y) (xs : List X) → AllByRecursion (λ x. P (f x)) xs → AllByRecursion P (map f xs)
AllByRecursion-map P f [] all = tt
AllByRecursion-map P f (x ∷ xs) all = (all.0, AllByRecursion-map P f xs all.1)
