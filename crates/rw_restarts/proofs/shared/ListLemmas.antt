-- Elements of lists: of two that are joined, and of one that is mapped.
use Rattle.std.specs.Prelude.{option_map}
use Rattle.std.proofs.Common.{◌≡◌, ◌⊎◌, inl, inr, ℕ, zero, suc, ◌<◌, List, [], ◌∷◌, ◌++◌, length, map, Some, slice_get, refl, ap, ◌∙◌, arith}
use Rattle.std.proofs.lemmas.Option.{same_Some, none-some, slice_get-map}

pub get-first : {X : Type 0} (xs ys : List X) (i : ℕ) (x : X) → slice_get xs i ≡ Some x
    → slice_get (xs ++ ys) i ≡ Some x
get-first [] ys i x e = absurd (none-some x e)
get-first (z ∷ zs) ys zero x e = e
get-first (z ∷ zs) ys (suc i) x e = get-first zs ys i x e

pub get-within : {X : Type 0} (xs ys : List X) (i : ℕ) (x : X) → slice_get (xs ++ ys) i ≡ Some x
    → i < length xs → slice_get xs i ≡ Some x
get-within [] ys i x e lt = absurd (omega arith)
get-within (z ∷ zs) ys zero x e lt = e
get-within (z ∷ zs) ys (suc i) x e lt = get-within zs ys i x e (omega arith)

pub get-second : {X : Type 0} (xs ys : List X) (i : ℕ) (y : X) → slice_get ys i ≡ Some y
    → (k : ℕ) × (slice_get (xs ++ ys) k ≡ Some y)
get-second [] ys i y e = (i, e)
get-second (x ∷ xs) ys i y e = let h = get-second xs ys i y e in (suc h.0, h.1)

pub get-either : {X : Type 0} (xs ys : List X) (i : ℕ) (z : X) → slice_get (xs ++ ys) i ≡ Some z
    → (slice_get xs i ≡ Some z) ⊎ ((k : ℕ) × (slice_get ys k ≡ Some z))
get-either [] ys i z e = inr (i, e)
get-either (x ∷ xs) ys zero z e = inl e
get-either (x ∷ xs) ys (suc i) z e = get-either xs ys i z e

pub get_map : {X Y : Type 0} (f : X → Y) (xs : List X) (k : ℕ) (x : X) → slice_get xs k ≡ Some x
    → slice_get (map f xs) k ≡ Some (f x)
get_map f xs k x e = slice_get-map f xs k ∙ ap (option_map f) e

pub map_get : {X Y : Type 0} (f : X → Y) (xs : List X) (k : ℕ) (y : Y)
    → slice_get (map f xs) k ≡ Some y → (x : X) × (slice_get xs k ≡ Some x) × (f x ≡ y)
map_get f [] k y e = absurd (none-some y e)
map_get f (x ∷ xs) zero y e = (x, refl, same_Some _ _ e)
map_get f (x ∷ xs) (suc k) y e = map_get f xs k y e
