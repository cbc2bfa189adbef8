-- What is held, after more was fed.
use Rattle.std.proofs.Common.{◌≡◌, ℕ, zero, suc, ◌+◌, ◌-◌, ◌<◌, List, [], ◌∷◌, ◌++◌, length, map, get_or, Result, Ok, Err, Bool, true, false, refl, sym, ap, ◌∙◌, arith, ◌==◌, take}
use Rattle.std.proofs.Math.ListN.{set}
use Rattle.std.proofs.Math.Dec.{eqb-suc-zero}
use Rattle.std.specs.Prelude.{OnOk, OnErr, is_ok, if◌then◌else◌}
use Rattle.std.proofs.lemmas.List.{map-append, take_more}
use Rattle.rw_wal_tail.specs.inner.Held.{Held, extend_last, fed, fed_with, later_bytes}

-- what an extension says at `Ok` and at `Err`
pub extended_ok : {T E : Type 0} (r : Result T E) (old new b : List ℕ) → new ≡ (if is_ok r then old ++ b else old) → OnOk r (new ≡ old ++ b)
extended_ok (Ok x) old new b e = e
extended_ok (Err x) old new b e = tt

pub extended_err : {T E : Type 0} (r : Result T E) (old new b : List ℕ) → new ≡ (if is_ok r then old ++ b else old) → OnErr r (new ≡ old)
extended_err (Ok x) old new b e = tt
extended_err (Err x) old new b e = e

only_here : (b rest : List ℕ) (h : Held) (later : List (ℕ × List ℕ)) → length later ≡ 0 → rest ≡ h.rest ++ b → record h { rest = rest; later = later; ended = false } ≡ fed_with b h later false
only_here b rest h [] n q = rw q refl
only_here b rest h (s ∷ ss) n q = absurd (omega arith)

module _ {A : Type 0} (f : A → ℕ × List ℕ) where
  -- the last segment, extended
  pub last_extended : (b : List ℕ) (xs : List A) (n : ℕ) (x y : A) → n ≡ length xs - 1 → 0 < length xs → x ≡ get_or xs n x → f y ≡ ((f x).0, (f x).1 ++ b) → map f (set xs n y) ≡ extend_last b (map f xs)
  last_extended b [] n x y e h g q = absurd (omega arith)
  last_extended b (z ∷ []) zero x y e h g q = ap (λ (l : ℕ × List ℕ). l ∷ []) (q ∙ ap (λ (w : A). ((f w).0, (f w).1 ++ b)) g)
  last_extended b (z ∷ []) (suc n) x y e h g q = absurd (omega arith)
  last_extended b (z ∷ w ∷ xs) zero x y e h g q = absurd (omega arith)
  last_extended b (z ∷ w ∷ xs) (suc n) x y e h g q = ap (λ (l : List (ℕ × List ℕ)). f z ∷ l) (last_extended b (w ∷ xs) n x y (omega arith) (omega arith) g q)

  pub last_same : (xs : List A) (n : ℕ) (x y : A) → x ≡ get_or xs n x → f y ≡ f x → map f (set xs n y) ≡ map f xs
  last_same [] n x y g q = refl
  last_same (z ∷ xs) zero x y g q = ap (λ (l : ℕ × List ℕ). l ∷ map f xs) (q ∙ ap f g)
  last_same (z ∷ xs) (suc n) x y g q = ap (λ (l : List (ℕ × List ℕ)). f z ∷ l) (last_same xs n x y g q)

  -- the three ways of feeding
  pub fed_ended : (b : List ℕ) (h : Held) (old new : List A) (x : A) → h.ended ≡ true → h.later ≡ map f old → new ≡ old ++ x ∷ [] → f x ≡ (h.ends, b)
      → record h { later = map f new; ended = false } ≡ fed b h
  unfolding fed
  fed_ended b h old new x e l n q =
      rw e (ap (λ (m : List (ℕ × List ℕ)). record h { later = m; ended = false })
      (ap (map f) n ∙ map-append f old (x ∷ []) ∙ ap (λ (y : ℕ × List ℕ). map f old ++ y ∷ []) q ∙ ap (λ (m : List (ℕ × List ℕ)). m ++ (h.ends, b) ∷ []) (sym l)))

  pub fed_last : (b : List ℕ) (h : Held) (old new : List A) → h.ended ≡ false → h.later ≡ map f old → 0 < length old → map f new ≡ extend_last b (map f old)
      → record h { later = map f new } ≡ fed b h
  unfolding fed
  fed_last b h [] new e l n q = absurd (omega arith)
  fed_last b h (x ∷ xs) new e l n q = rw (l, e, q) refl

pub fed_here : (b rest : List ℕ) (h : Held) → h.ended ≡ false → length h.later ≡ 0 → rest ≡ h.rest ++ b → record h { rest = rest } ≡ fed b h
unfolding fed
fed_here b rest h e n q = rw e (only_here b rest h h.later n q)

-- a test for 0
pub not_zero : (n : ℕ) (b : Bool) → b ≡ (n == 0) → b ≡ false → 0 < n
not_zero zero b e h = absurd cc
not_zero (suc n) b e h = omega arith

pub is_zero : (n : ℕ) (b : Bool) → b ≡ (n == 0) → b ≡ true → n ≡ 0
is_zero zero b e h = refl
is_zero (suc n) b e h = let f : (suc n == 0) ≡ false = eqb-suc-zero n in absurd cc

-- ---- bytes that wait

pub later_bytes-append : (xs ys : List (ℕ × List ℕ)) → later_bytes (xs ++ ys) ≡ later_bytes xs + later_bytes ys
later_bytes-append [] ys = omega arith
later_bytes-append (x ∷ xs) ys = omega (arith, later_bytes-append xs ys)

-- one more segment is added up
pub added_more : (count total more i : ℕ) (xs : List (ℕ × List ℕ)) (x : ℕ × List ℕ) → total ≡ count + later_bytes (take i xs) → i < length xs → get_or xs i x ≡ x
    → more ≡ total + length x.1 → more ≡ count + later_bytes (take (i + 1) xs)
added_more count total more i xs x t lt at m =
    let y = get_or xs i x in
    let s : take (i + 1) xs ≡ take i xs ++ x ∷ [] = take_more xs i x lt ∙ ap (λ z. take i xs ++ z ∷ []) at in
    let n : later_bytes (take (i + 1) xs) ≡ later_bytes (take i xs) + later_bytes (x ∷ []) = ap later_bytes s ∙ later_bytes-append (take i xs) (x ∷ []) in
    omega (arith, t, m, n)
