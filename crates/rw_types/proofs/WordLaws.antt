-- The words of whole numbers: each part fits.
use Rattle.std.proofs.Common.{◌≡◌, ℕ, suc, ◌+◌, ◌-◌, ◌*◌, ◌^◌, ◌<◌, ◌≤◌, ℤ, pos, Some, None, refl, sym, ap, ◌∙◌, subst, inl, inr, arith, pow_pos, pow_mono, pow-add, pow-suc, nat_abs, unsigned_abs, int_lt, eqb, leb, eq-eqb, ne_eqb, le-leb, true, false, Bool, if◌then◌else◌}
use Rattle.std.proofs.lemmas.Bool.{cases_lt, lt-leb}
use Rattle.std.proofs.lemmas.Nat.{leading_top}
use Rattle.std.proofs.Math.Nat.{mul-lt-mul_of_pos_right}
use Rattle.rw_types.specs.Words.{highest_bit, magnitude_word, word_of_int}

pub record IsTop (n k : ℕ) : Type 0 where
  pub low : 2 ^ k ≤ n
  pub high : n < 2 * 2 ^ k
  pub small : k ≤ 53

double : (k : ℕ) → 2 ^ suc k ≡ 2 * 2 ^ k
double k = omega (arith, pow-suc 2 k)

not_above : (j n : ℕ) → 2 ^ j ≤ n → n ≤ 2 ^ 53 → j ≤ 53
not_above j n l h = elim (cases_lt j 54) [
  | inl s ↦ omega arith
  | inr g ↦ (let p : 2 ^ 54 ≤ 2 ^ j = pow_mono g in absurd (omega (arith, p)))
]

pub top_of : (n : ℕ) → 0 < n → n ≤ 2 ^ 53 → IsTop n (highest_bit n)
top_of n p h =
    let t = leading_top 64 n p (omega arith) in
    let e : highest_bit n ≡ t.0 = omega (arith, t.1) in
    subst (λ (k : ℕ). IsTop n k) (sym e) (record { low = t.2; high = omega (arith, t.3, double t.0); small = not_above t.0 n t.2 h })

pub fraction_fits : (n k : ℕ) → IsTop n k → k < 53 → (n - 2 ^ k) * 2 ^ (52 - k) < 2 ^ 52
fraction_fits n k t l =
    let d : n - 2 ^ k < 2 ^ k = omega (arith, t.low, t.high, pow_pos k) in
    let m : (n - 2 ^ k) * 2 ^ (52 - k) < 2 ^ k * 2 ^ (52 - k) = mul-lt-mul_of_pos_right d (pow_pos (52 - k)) in
    let e : 2 ^ k * 2 ^ (52 - k) ≡ 2 ^ 52 = sym (pow-add 2 k (52 - k)) ∙ ap (λ (j : ℕ). 2 ^ j) (let s : k + (52 - k) ≡ 52 = omega arith in s) in
    omega (arith, m, e)

-- at 2 ^ 53 there is no fraction
pub fraction_none : (n k : ℕ) → IsTop n k → n ≤ 2 ^ 53 → 53 ≤ k → (n - 2 ^ k) * 2 ^ (52 - k) ≡ 0
fraction_none n k t h l =
    let e : k ≡ 53 = omega (arith, t.small) in
    let z : n - 2 ^ 53 ≡ 0 = omega arith in
    rw e (rw z refl)

-- the fraction that is below the exponent
abbrev pub fraction_of : ℕ → ℕ
fraction_of n = (n - 2 ^ highest_bit n) * 2 ^ (52 - highest_bit n)

pub fraction_below : (n k : ℕ) → IsTop n k → n ≤ 2 ^ 53 → (n - 2 ^ k) * 2 ^ (52 - k) < 2 ^ 52
fraction_below n k t h = elim (cases_lt k 53) [
  | inl l ↦ fraction_fits n k t l
  | inr g ↦ omega (arith, fraction_none n k t h g)
]

-- with the highest bit's number s, as the code has it
pub record Parts (n s : ℕ) : Type 0 where
  pub low : s ≤ n
  pub same : (n - s) * 2 ^ (52 - highest_bit n) ≡ fraction_of n
  pub below : fraction_of n < 2 ^ 52
  pub none : 53 ≤ highest_bit n → fraction_of n ≡ 0
  pub small : highest_bit n ≤ 53

pub parts_of : (n s : ℕ) → 0 < n → n ≤ 2 ^ 53 → s ≡ 1 * 2 ^ highest_bit n → Parts n s
parts_of n s p h e =
    let t = top_of n p h in
    let e' : s ≡ 2 ^ highest_bit n = omega (arith, e) in
    record {
      low = omega (arith, e', t.low);
      same = ap (λ (x : ℕ). (n - x) * 2 ^ (52 - highest_bit n)) e';
      below = fraction_below n (highest_bit n) t h;
      none = λ g. fraction_none n (highest_bit n) t h g;
      small = t.small;
    }

pub word_zero : (m : ℤ) (s : ℕ) → s ≡ unsigned_abs m → s ≡ 0 → Some 0 ≡ word_of_int m
unfolding word_of_int
word_zero m s e z = let t : eqb (nat_abs m) 0 ≡ true = eq-eqb (nat_abs m) 0 (sym e ∙ z) in rw t refl

pub word_none : (m : ℤ) (s : ℕ) → s ≡ unsigned_abs m → 2 ^ 53 < s → None ≡ word_of_int m
unfolding word_of_int
word_none m s e g =
    let g' : 2 ^ 53 < nat_abs m = subst (λ (x : ℕ). 2 ^ 53 < x) e g in
    let t : eqb (nat_abs m) 0 ≡ false = ne_eqb (nat_abs m) 0 (omega arith) in
    let u : leb (nat_abs m) (2 ^ 53) ≡ false = lt-leb (nat_abs m) (2 ^ 53) g' in
    rw (t, u) refl

pub word_small : (m : ℤ) (s w : ℕ) → s ≡ unsigned_abs m → 0 < s → s ≤ 2 ^ 53 → w ≡ magnitude_word s
    → word_of_int m ≡ Some ((if int_lt m (pos 0) then 2 ^ 63 else 0) + w)
unfolding word_of_int
word_small m s w e p l h =
    let p' : 0 < nat_abs m = subst (λ (x : ℕ). 0 < x) e p in
    let l' : nat_abs m ≤ 2 ^ 53 = subst (λ (x : ℕ). x ≤ 2 ^ 53) e l in
    let t : eqb (nat_abs m) 0 ≡ false = ne_eqb (nat_abs m) 0 (omega arith) in
    let u : leb (nat_abs m) (2 ^ 53) ≡ true = le-leb (nat_abs m) (2 ^ 53) l' in
    rw (t, u) (ap (λ (x : ℕ). Some ((if int_lt m (pos 0) then 2 ^ 63 else 0) + x)) (sym (h ∙ ap magnitude_word e)))

pub word_negative : (m : ℤ) (s w : ℕ) → s ≡ unsigned_abs m → (s ≡ 0 → ⊥) → s ≤ 2 ^ 53 → w ≡ magnitude_word s → int_lt m (pos 0) ≡ true
    → Some (2 ^ 63 + w) ≡ word_of_int m
word_negative m s w e p l h n =
    ap (λ (b : Bool). Some ((if b then 2 ^ 63 else 0) + w)) (sym n) ∙ sym (word_small m s w e (omega arith) l h)

pub word_positive : (m : ℤ) (s w : ℕ) → s ≡ unsigned_abs m → (s ≡ 0 → ⊥) → s ≤ 2 ^ 53 → w ≡ magnitude_word s → int_lt m (pos 0) ≡ false
    → Some w ≡ word_of_int m
word_positive m s w e p l h n =
    ap Some (let z : w ≡ 0 + w = omega arith in z) ∙ ap (λ (b : Bool). Some ((if b then 2 ^ 63 else 0) + w)) (sym n) ∙ sym (word_small m s w e (omega arith) l h)
