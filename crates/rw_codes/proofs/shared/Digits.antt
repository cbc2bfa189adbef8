-- The shortest varint of a number: how long it is, and how it is written byte by byte.
use Rattle.std.proofs.Common.{◌≡◌, ℕ, zero, suc, ◌+◌, ◌-◌, ◌*◌, ◌/◌, ◌%◌, ◌^◌, ◌<◌, ◌≤◌, List, [], ◌∷◌, ◌++◌, length, refl, sym, ap, ◌∙◌, inl, inr, append_assoc, arith, pow-suc, mul_comm}
use Rattle.std.specs.Int.Count.{count_leading_zeros}
use Rattle.std.proofs.lemmas.Bool.{cases_lt, le-ltb, lt-ltb}
use Rattle.std.proofs.lemmas.Nat.{leading_top, pow-add}
use Rattle.std.proofs.Math.Nat.{pow-le-pow_right}
use Rattle.rw_codes.specs.Varint.{groups, uvarint}

pub groups_one : (k n : ℕ) → n < 128 → groups k n ≡ n ∷ []
unfolding groups
groups_one zero n lt = refl
groups_one (suc k) n lt = rw (lt-ltb n 128 lt) refl

pub groups_more : (k n : ℕ) → 128 ≤ n → groups (suc k) n ≡ (128 + n % 128) ∷ groups k (n / 128)
unfolding groups
groups_more k n le = rw (le-ltb n 128 le) refl

pub groups_short : (k n : ℕ) → length (groups k n) ≤ suc k
unfolding groups
groups_short zero n = omega arith
groups_short (suc k) n = elim (cases_lt n 128) [
  | inl lt ↦ rw (lt-ltb n 128 lt) (omega arith)
  | inr le ↦ let h = groups_short k (n / 128) in rw (le-ltb n 128 le) (omega arith)
]

pub groups_some : (k n : ℕ) → 1 ≤ length (groups k n)
unfolding groups
groups_some zero n = omega arith
groups_some (suc k) n = elim (cases_lt n 128) [
  | inl lt ↦ rw (lt-ltb n 128 lt) (omega arith)
  | inr le ↦ rw (le-ltb n 128 le) (omega arith)
]

-- ---- the length

pub power : (g : ℕ) → 128 ^ suc g ≡ 128 * 128 ^ g
power g = pow-suc 128 g ∙ mul_comm (128 ^ g) 128

power_some : (g : ℕ) → 1 ≤ 128 ^ g
power_some zero = omega arith
power_some (suc g) = omega (arith, power g, power_some g)

power_of_two : (g : ℕ) → 128 ^ g ≡ 2 ^ (7 * g)
power_of_two zero = refl
power_of_two (suc g) =
    let e : 7 * suc g ≡ 7 + 7 * g = omega arith in
    power g ∙ ap (λ (p : ℕ). 128 * p) (power_of_two g) ∙ sym (pow-add 2 7 (7 * g)) ∙ ap (λ (j : ℕ). 2 ^ j) (sym e)

groups_length : (k g n : ℕ) → g ≤ k → 128 ^ g ≤ n → n < 128 ^ suc g → length (groups k n) ≡ suc g
groups_length k zero n le low high = ap length (groups_one k n (omega arith))
groups_length zero (suc g) n le low high = absurd (omega arith)
groups_length (suc k) (suc g) n le low high =
    let big : 128 ≤ n = omega (arith, power g, low, power_some g) in
    let less : g ≤ k = omega arith in
    let l : 128 ^ g ≤ n / 128 = omega (arith, power g, low) in
    let h : n / 128 < 128 ^ suc g = omega (arith, power (suc g), high) in
    ap length (groups_more k n big) ∙ ap suc (groups_length k g (n / 128) less l h)

pub uvarint_length : (n zeros : ℕ) → n < 2 ^ 64 → 128 ≤ n → zeros ≡ count_leading_zeros 64 n → length (uvarint n) ≡ 1 + (63 - zeros) / 7
uvarint_length n zeros lt le e =
    let t = leading_top 64 n (omega arith) lt in
    let top : 63 - zeros ≡ t.0 = omega (arith, t.1, e) in
    let g : ℕ = t.0 / 7 in
    let two : 0 < 2 = omega arith in
    let under : 7 * g ≤ t.0 = omega arith in
    let over : suc t.0 ≤ 7 * suc g = omega arith in
    let low : 128 ^ g ≤ n = omega (arith, power_of_two g, pow-le-pow_right two under, t.2) in
    let high : n < 128 ^ suc g = omega (arith, power_of_two (suc g), pow-le-pow_right two over, t.3) in
    let few : g ≤ 9 = omega (arith, t.1) in
    let len : length (uvarint n) ≡ suc g = groups_length 9 g n few low high in
    let same : (63 - zeros) / 7 ≡ g = ap (λ (j : ℕ). j / 7) top in
    omega (arith, len, same)

pub uvarint_one : (n : ℕ) → n < 128 → uvarint n ≡ n ∷ []
uvarint_one n lt = groups_one 9 n lt

pub uvarint_length_one : (n : ℕ) → n < 128 → 1 ≡ length (uvarint n)
uvarint_length_one n lt = sym (ap length (uvarint_one n lt))

pub uvarint_short : (n : ℕ) → length (uvarint n) ≤ 10
uvarint_short n = groups_short 9 n

-- ---- byte by byte

-- what is still to write of the number n: the groups of the rest, which have room after the first
-- `len` bytes
pub record Left (old out : List ℕ) (len room n rest : ℕ) : Type 0 where
  pub k : ℕ
  pub below : rest < 2 * 128 ^ k
  pub spelled : out ++ groups k rest ≡ old ++ uvarint n
  pub fits : len + length (groups k rest) ≤ room

pub Left-start : (old : List ℕ) (len room n : ℕ) → n < 2 ^ 64 → len + length (uvarint n) ≤ room → Left old old len room n n
Left-start old len room n lt fits = record { k = 9; below = lt; spelled = refl; fits = fits }

pub Left-room : (old out : List ℕ) (len room n rest : ℕ) → Left old out len room n rest → len < room
Left-room old out len room n rest l = omega (arith, l.fits, groups_some l.k rest)

more : (k : ℕ) (old out : List ℕ) (len room n rest : ℕ) → rest < 2 * 128 ^ k → out ++ groups k rest ≡ old ++ uvarint n → len + length (groups k rest) ≤ room → 128 ≤ rest
    → Left old (out ++ (128 + rest % 128) ∷ []) (len + 1) room n (rest / 128)
more zero old out len room n rest below spelled fits le = absurd (omega arith)
more (suc k) old out len room n rest below spelled fits le =
    let e = groups_more k rest le in
    let byte : List ℕ = (128 + rest % 128) ∷ [] in
    let joined : (out ++ byte) ++ groups k (rest / 128) ≡ out ++ groups (suc k) rest = append_assoc out byte (groups k (rest / 128)) ∙ ap (λ (g : List ℕ). out ++ g) (sym e) in
    let longer : length (groups (suc k) rest) ≡ suc (length (groups k (rest / 128))) = ap length e in
    record { k = k; below = omega (arith, power k, below); spelled = joined ∙ spelled; fits = omega (arith, longer, fits) }

pub Left-more : (old out : List ℕ) (len room n rest : ℕ) → Left old out len room n rest → 128 ≤ rest → Left old (out ++ (128 + rest % 128) ∷ []) (len + 1) room n (rest / 128)
Left-more old out len room n rest l le = more l.k old out len room n rest l.below l.spelled l.fits le

pub Left-last : (old out : List ℕ) (len room n rest : ℕ) → Left old out len room n rest → rest < 128 → out ++ rest ∷ [] ≡ old ++ uvarint n
Left-last old out len room n rest l lt = ap (λ (g : List ℕ). out ++ g) (sym (groups_one l.k rest lt)) ∙ l.spelled
