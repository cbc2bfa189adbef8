-- What is read of the word of a whole number.
use Rattle.std.proofs.Common.{◌≡◌, ℕ, ◌+◌, ◌-◌, ◌*◌, ◌/◌, ◌%◌, ◌^◌, ◌<◌, ◌≤◌, ℤ, pos, Some, None, Bool, true, false, if◌then◌else◌, eqb, leb, eq-eqb, ne_eqb, nat_abs, unsigned_abs, int_lt, refl, sym, ap, ◌∙◌, subst, inl, inr, ◌⊎◌, arith, pow_pos, pow_mono, mul-div_cancel}
use Rattle.std.proofs.lemmas.Bool.{cases_lt, lt-leb}
use Rattle.std.proofs.lemmas.Nat.{div-mul-add, mod-mul-add}
use Rattle.std.proofs.lemmas.Option.{same_Some}
use Rattle.rw_types.specs.Words.{highest_bit, magnitude_word, word_of_int}
use Rattle.rw_types.proofs.WordLaws.{IsTop, top_of, fraction_of, fraction_below, word_small}

-- the exponent, the highest bit and the fraction of a word
pub record Reads (w n : ℕ) : Type 0 where
  pub exponent : w / 2 ^ 52 % 2048 ≡ 1023 + highest_bit n
  pub fraction : w % 2 ^ 52 ≡ fraction_of n
  pub top : IsTop n (highest_bit n)
  pub small : n ≤ 2 ^ 53

digits : (s k f : ℕ) → k ≤ 53 → f < 2 ^ 52 → ((s * 2 ^ 63 + ((1023 + k) * 2 ^ 52 + f)) / 2 ^ 52 % 2048 ≡ 1023 + k) × ((s * 2 ^ 63 + ((1023 + k) * 2 ^ 52 + f)) % 2 ^ 52 ≡ f)
digits s k f h l =
    let e : s * 2 ^ 63 + ((1023 + k) * 2 ^ 52 + f) ≡ (s * 2048 + (1023 + k)) * 2 ^ 52 + f = omega arith in (
      ap (λ (x : ℕ). x / 2 ^ 52 % 2048) e ∙ ap (λ (x : ℕ). x % 2048) (div-mul-add (s * 2048 + (1023 + k)) (2 ^ 52) f l) ∙ mod-mul-add s 2048 (1023 + k) (omega arith),
      ap (λ (x : ℕ). x % 2 ^ 52) e ∙ mod-mul-add (s * 2048 + (1023 + k)) (2 ^ 52) f l,
    )

sign_of : Bool → ℕ
sign_of true = 1
sign_of false = 0

sign_is : (b : Bool) → (if b then 2 ^ 63 else 0) ≡ sign_of b * 2 ^ 63
unfolding sign_of
sign_is true = refl
sign_is false = refl

none_some : (w : ℕ) → None ≡ Some w → ⊥
none_some w e = cc

pub reads_word : (m : ℤ) (w : ℕ) → word_of_int m ≡ Some w → ((nat_abs m ≡ 0) × (w ≡ 0)) ⊎ Reads w (nat_abs m)
unfolding word_of_int
reads_word m w e = elim (cases_lt 0 (nat_abs m)) [
  | inr z ↦
      (let z' : nat_abs m ≡ 0 = omega arith in
      let t : eqb (nat_abs m) 0 ≡ true = eq-eqb (nat_abs m) 0 z' in
      let f : word_of_int m ≡ Some 0 = rw t refl in
      inl (z', same_Some w 0 (sym e ∙ f)))
  | inl p ↦ elim (cases_lt (2 ^ 53) (nat_abs m)) [
    | inl g ↦
        (let t : eqb (nat_abs m) 0 ≡ false = ne_eqb (nat_abs m) 0 (omega arith) in
        let u : leb (nat_abs m) (2 ^ 53) ≡ false = lt-leb (nat_abs m) (2 ^ 53) g in
        let f : word_of_int m ≡ None = rw (t, u) refl in
        absurd (none_some w (sym f ∙ e)))
    | inr s ↦
        (let t = top_of (nat_abs m) p s in
        let f = word_small m (nat_abs m) (magnitude_word (nat_abs m)) refl p s refl in
        let v : w ≡ (if int_lt m (pos 0) then 2 ^ 63 else 0) + magnitude_word (nat_abs m) = same_Some _ _ (sym e ∙ f) in
        let v' : w ≡ sign_of (int_lt m (pos 0)) * 2 ^ 63 + ((1023 + highest_bit (nat_abs m)) * 2 ^ 52 + fraction_of (nat_abs m)) = v ∙ ap (λ (x : ℕ). x + magnitude_word (nat_abs m)) (sign_is (int_lt m (pos 0))) in
        let d = digits (sign_of (int_lt m (pos 0))) (highest_bit (nat_abs m)) (fraction_of (nat_abs m)) t.small (fraction_below (nat_abs m) (highest_bit (nat_abs m)) t s) in
        inr (record { exponent = ap (λ (x : ℕ). x / 2 ^ 52 % 2048) v' ∙ d.0; fraction = ap (λ (x : ℕ). x % 2 ^ 52) v' ∙ d.1; top = t; small = s }))
  ]
]

-- the number below the highest bit, from the fraction
pub above_is : (n k : ℕ) → IsTop n k → k < 53 → (n - 2 ^ k) * 2 ^ (52 - k) / 2 ^ (52 - k) ≡ n - 2 ^ k
above_is n k t h = mul-div_cancel (n - 2 ^ k) (pow_pos (52 - k))

pub small_none : (m : ℤ) (w : ℕ) → word_of_int m ≡ Some w → ((w / 2 ^ 52 % 2048 < 1023) ⊎ (1076 < w / 2 ^ 52 % 2048)) → unsigned_abs m ≡ 0
small_none m w e (inl h) = elim (reads_word m w e) [
  | inl z ↦ z.0
  | inr r ↦ absurd (omega (arith, r.exponent))
]
small_none m w e (inr h) = elim (reads_word m w e) [
  | inl z ↦ z.0
  | inr r ↦ absurd (omega (arith, r.exponent, r.top.small))
]

pub size_at : (n w j s a : ℕ) → Reads w n → j ≡ highest_bit n → s ≡ 1 * 2 ^ j → (j < 53 → a ≡ w % 2 ^ 52 / 2 ^ (52 - j)) → (53 ≤ j → a ≡ 0) → n ≡ s + a
size_at n w j s a r e f g h =
    let p : 2 ^ j ≡ 2 ^ highest_bit n = ap (λ (x : ℕ). 2 ^ x) e in
    elim (cases_lt j 53) [
      | inl l ↦
          (let l' : highest_bit n < 53 = omega (arith, e) in
          let q : w % 2 ^ 52 / 2 ^ (52 - j) ≡ fraction_of n / 2 ^ (52 - highest_bit n) =
          ap (λ (x : ℕ). w % 2 ^ 52 / 2 ^ (52 - x)) e ∙ ap (λ (x : ℕ). x / 2 ^ (52 - highest_bit n)) r.fraction in
          omega (arith, f, p, g l, q, above_is n (highest_bit n) r.top l', r.top.low))
      | inr u ↦
          (let k : highest_bit n ≡ 53 = omega (arith, e, r.top.small) in
          let t : 2 ^ highest_bit n ≡ 2 ^ 53 = ap (λ (x : ℕ). 2 ^ x) k in
          omega (arith, f, p, h u, t, r.top.low, r.small))
    ]

pub size_is : (m : ℤ) (w s a : ℕ) → word_of_int m ≡ Some w → 1023 ≤ w / 2 ^ 52 % 2048 → s ≡ 1 * 2 ^ (w / 2 ^ 52 % 2048 - 1023)
    → (w / 2 ^ 52 % 2048 - 1023 < 53 → a ≡ w % 2 ^ 52 / 2 ^ (52 - (w / 2 ^ 52 % 2048 - 1023))) → (53 ≤ w / 2 ^ 52 % 2048 - 1023 → a ≡ 0) → unsigned_abs m ≡ s + a
size_is m w s a e x f g h = elim (reads_word m w e) [
  | inl z ↦ (let y : 1023 ≤ 0 = subst (λ (v : ℕ). 1023 ≤ v / 2 ^ 52 % 2048) z.1 x in absurd (omega arith))
  | inr r ↦ (let k : w / 2 ^ 52 % 2048 - 1023 ≡ highest_bit (nat_abs m) = omega (arith, r.exponent) in size_at (nat_abs m) w (w / 2 ^ 52 % 2048 - 1023) s a r k f g h)
]

pub size_bound : (j s a f : ℕ) → j ≤ 53 → s ≡ 1 * 2 ^ j → a ≤ f → f < 2 ^ 52 → s + a < 2 ^ 63
size_bound j s a f h e l g = let p : 2 ^ j ≤ 2 ^ 53 = pow_mono h in omega (arith, e, p)
