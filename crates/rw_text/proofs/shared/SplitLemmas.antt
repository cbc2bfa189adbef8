-- A text before and after a byte.
use Rattle.std.proofs.Common.{◌≡◌, ◌<◌, ◌==◌, ℕ, List, [], ◌∷◌, ◌++◌, length, All, false, sym, arith, eq-eqb, refl}
use Rattle.std.proofs.Math.Seq.{get_or-append_seam}
use Rattle.std.proofs.Math.ListN.{get_or}
use Rattle.std.proofs.lemmas.Bool.{both_ways}
use Rattle.std.proofs.lemmas.List.{length-append}
use Rattle.std.proofs.lemmas.List.Elements.{All-head, All-tail}

pub not_without : (byte : ℕ) (text front rest : List ℕ) → All (λ b. (b == byte) ≡ false) text → text ≡ front ++ byte ∷ rest → ⊥
not_without byte text front rest none e =
    let within : length front < length text = rw e (omega (arith, length-append front (byte ∷ rest))) in
    let at : get_or text (length front) 0 ≡ byte = rw e (get_or-append_seam front byte rest 0) in
    both_ways (get_or text (length front) 0 == byte) (none (length front) 0 within) (eq-eqb (get_or text (length front) 0) byte at)

-- the texts before and after the first of these bytes are just these
pub split_unique : (byte : ℕ) (front other rest more : List ℕ) → All (λ b. (b == byte) ≡ false) front → All (λ b. (b == byte) ≡ false) other
    → front ++ byte ∷ rest ≡ other ++ byte ∷ more → (front ≡ other) × (rest ≡ more)
split_unique byte [] [] rest more f g e = (refl, cc)
split_unique byte [] (b ∷ other) rest more f g e = let h : byte ≡ b = cc in absurd (both_ways (b == byte) (All-head (λ b. (b == byte) ≡ false) b other g) (eq-eqb b byte (sym h)))
split_unique byte (a ∷ front) [] rest more f g e = let h : a ≡ byte = cc in absurd (both_ways (a == byte) (All-head (λ b. (b == byte) ≡ false) a front f) (eq-eqb a byte h))
split_unique byte (a ∷ front) (b ∷ other) rest more f g e =
    let p = split_unique byte front other rest more (All-tail (λ b. (b == byte) ≡ false) a front f) (All-tail (λ b. (b == byte) ≡ false) b other g) cc in
    let h : a ≡ b = cc in
    (cc (h, p.0), p.1)
