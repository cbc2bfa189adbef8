-- Choices and disjunctions of booleans.
use Rattle.std.proofs.Common.{◌≡◌, ◌⊎◌, Bool, true, false, ◌||◌, refl, inl, inr, cond, ℕ, suc, ◌+◌, arith}

pub or_true : (x y : Bool) → (x || y) ≡ true → (x ≡ true) ⊎ (y ≡ true)
or_true true y h = inl refl
or_true false y h = inr h

pub either : {X : Type 0} (P : X → Type 0) (b : Bool) (x y : X) → (b ≡ true → P x) → (b ≡ false → P y) → P (cond b x y)
either P true x y on off = on refl
either P false x y on off = off refl

pub next : (n : ℕ) → suc n ≡ n + 1
next n = omega arith
