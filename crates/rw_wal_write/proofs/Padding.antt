-- The zeros of a page's end.
use Rattle.std.proofs.Common.{◌≡◌, ℕ, zero, suc, ◌<◌, ◌≤◌, List, [], ◌∷◌, take, replicate, true, ltb, refl, ap, arith, lt-ltb}
use Rattle.rw_wal_format.specs.Writing.{padding}

zeros : ℕ → List ℕ
zeros n = replicate n 0

take-zeros : (n m : ℕ) → n ≤ m → take n (zeros m) ≡ zeros n
unfolding zeros
take-zeros zero m h = refl
take-zeros (suc n) zero h = absurd (omega arith)
take-zeros (suc n) (suc m) h = ap (λ (zs : List ℕ). 0 ∷ zs) (take-zeros n m (omega arith))

pub take_padding : (left : ℕ) → left < 7 → take left (0 ∷ 0 ∷ 0 ∷ 0 ∷ 0 ∷ 0 ∷ []) ≡ padding left
unfolding zeros
take_padding left h =
    let t : ltb left 7 ≡ true = lt-ltb left 7 h in
    rw t (take-zeros left 6 (omega arith))
