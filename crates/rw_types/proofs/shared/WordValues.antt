-- The whole number of a word is read from it.
use Rattle.std.proofs.Common.{◌≡◌, ℕ, suc, ◌+◌, ◌-◌, ◌/◌, ◌%◌, ◌^◌, ◌≤◌, ℤ, pos, negsuc, neg_ℤ, Option, Some, None, Bool, true, false, if◌then◌else◌, eq-eqb, ne_eqb, nat_abs, int_lt, refl, sym, ap, ◌∙◌, subst, inl, inr, ◌⊎◌, arith}
use Rattle.std.proofs.lemmas.Bool.{eqb-true, le-ltb, false≢true, false_from_ne_true}
use Rattle.std.proofs.lemmas.Option.{same_Some}
use Rattle.rw_types.specs.Words.{highest_bit, magnitude_word, word_of_int, size_of_word, has_word, int_of_word}
use Rattle.rw_types.proofs.WordLaws.{fraction_none, word_small}
use Rattle.rw_types.proofs.shared.WordReads.{Reads, reads_word, size_at}

size_of_word-zero : (w : ℕ) → w ≡ 0 → size_of_word w ≡ 0
size_of_word-zero w e = rw e refl

fraction_at_top : (n w j : ℕ) → Reads w n → j ≡ highest_bit n → 53 ≤ j → w % 2 ^ 52 / 2 ^ (52 - j) ≡ 0
fraction_at_top n w j r e top =
    let f : w % 2 ^ 52 ≡ 0 = r.fraction ∙ fraction_none n (highest_bit n) r.top r.small (omega (arith, e)) in
    let z : 52 - j ≡ 0 = omega arith in
    rw (f, z) refl

size_of_word-reads : (n w : ℕ) → Reads w n → size_of_word w ≡ n
size_of_word-reads n w r =
    let some : w ≡ 0 → ⊥ = λ z. let y : 0 / 2 ^ 52 % 2048 ≡ 1023 + highest_bit n = subst (λ (v : ℕ). v / 2 ^ 52 % 2048 ≡ 1023 + highest_bit n) z r.exponent in omega (arith, y) in
    let j : ℕ = w / 2 ^ 52 % 2048 - 1023 in
    let e : j ≡ highest_bit n = omega (arith, r.exponent) in
    let s : n ≡ 2 ^ j + w % 2 ^ 52 / 2 ^ (52 - j) = size_at n w j (2 ^ j) (w % 2 ^ 52 / 2 ^ (52 - j)) r e (omega arith) (λ _. refl) (λ top. fraction_at_top n w j r e top) in
    rw (ne_eqb w 0 some) (sym s)

size_is_abs : (m : ℤ) (w : ℕ) → word_of_int m ≡ Some w → size_of_word w ≡ nat_abs m
size_is_abs m w e = elim (reads_word m w e) [
  | inl z ↦ size_of_word-zero w z.1 ∙ sym z.0
  | inr r ↦ size_of_word-reads (nat_abs m) w r
]

found : (o : Option ℕ) (w : ℕ) → o ≡ Some w → has_word o w ≡ true
found o w e = rw e (eq-eqb w w refl)

has : (o : Option ℕ) (w : ℕ) → has_word o w ≡ true → o ≡ Some w
has None w h = absurd (false≢true h)
has (Some v) w h = ap Some (eqb-true v w h)

missing : (o : Option ℕ) (v w : ℕ) → o ≡ Some v → (v ≡ w → ⊥) → has_word o w ≡ false
missing o v w e n = rw e (ne_eqb v w n)

abbrev signed_part : ℤ → ℕ
signed_part m = if int_lt m (pos 0) then 2 ^ 63 else 0

no_sign : (n : ℕ) → signed_part (pos n) ≡ 0
no_sign n = rw (le-ltb n 0 (omega arith)) refl

-- a negative number and the positive one of its size have other words
positive_is_other : (j w : ℕ) → word_of_int (negsuc j) ≡ Some w → has_word (word_of_int (pos (suc j))) w ≡ false
positive_is_other j w e = elim (reads_word (negsuc j) w e) [
  | inl z ↦ absurd (omega (arith, z.0))
  | inr r ↦
      let up : word_of_int (pos (suc j)) ≡ Some (signed_part (pos (suc j)) + magnitude_word (suc j)) = word_small (pos (suc j)) (suc j) (magnitude_word (suc j)) refl (omega arith) r.small refl in
      let down : word_of_int (negsuc j) ≡ Some (signed_part (negsuc j) + magnitude_word (suc j)) = word_small (negsuc j) (suc j) (magnitude_word (suc j)) refl (omega arith) r.small refl in
      let is : 2 ^ 63 + magnitude_word (suc j) ≡ w = same_Some (signed_part (negsuc j) + magnitude_word (suc j)) w (sym down ∙ e) in
      missing (word_of_int (pos (suc j))) (signed_part (pos (suc j)) + magnitude_word (suc j)) w up (λ f. omega (arith, f, is, no_sign (suc j)))
]

pub int_of_word-from_word : (m : ℤ) (w : ℕ) → word_of_int m ≡ Some w → int_of_word w ≡ Some m
unfolding int_of_word
int_of_word-from_word (pos n) w e =
    let s : size_of_word w ≡ n = size_is_abs (pos n) w e in
    rw s (rw (found (word_of_int (pos n)) w e) refl)
int_of_word-from_word (negsuc j) w e =
    let s : size_of_word w ≡ suc j = size_is_abs (negsuc j) w e in
    rw s (rw (positive_is_other j w e, found (word_of_int (negsuc j)) w e) refl)

no_word : (m : ℤ) (w : ℕ) → (word_of_int m ≡ Some w → ⊥) → has_word (word_of_int m) w ≡ false
no_word m w n = false_from_ne_true (has_word (word_of_int m) w) (λ t. n (has (word_of_int m) w t))

pub int_of_word-none : (w : ℕ) → ((m : ℤ) → word_of_int m ≡ Some w → ⊥) → int_of_word w ≡ None
unfolding int_of_word
int_of_word-none w n =
    let size : ℤ = pos (size_of_word w) in
    rw (no_word size w (n size), no_word (neg_ℤ size) w (n (neg_ℤ size))) refl

same_whole : (a m : ℤ) → Some a ≡ Some m → a ≡ m
same_whole a m e = cc

no_whole : (m : ℤ) → None ≡ Some m → ⊥
no_whole m e = cc

chosen : (t u : Bool) (a b m : ℤ) → (if t then Some a else if u then Some b else None) ≡ Some m → ((t ≡ true) × (a ≡ m)) ⊎ ((u ≡ true) × (b ≡ m))
chosen true u a b m e = inl (refl, same_whole a m e)
chosen false true a b m e = inr (refl, same_whole b m e)
chosen false false a b m e = absurd (no_whole m e)

pub word-from_int_of_word : (m : ℤ) (w : ℕ) → int_of_word w ≡ Some m → word_of_int m ≡ Some w
unfolding int_of_word
word-from_int_of_word m w e =
    let size : ℤ = pos (size_of_word w) in
    elim (chosen (has_word (word_of_int size) w) (has_word (word_of_int (neg_ℤ size)) w) size (neg_ℤ size) m e) [
      | inl h ↦ ap word_of_int (sym h.1) ∙ has (word_of_int size) w h.0
      | inr h ↦ ap word_of_int (sym h.1) ∙ has (word_of_int (neg_ℤ size)) w h.0
    ]
