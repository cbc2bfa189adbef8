-- The division by the polynomial is linear over `^`, and passes over whole bytes.
use Rattle.std.proofs.Common.{◌≡◌, ℕ, zero, suc, ◌+◌, ◌*◌, ◌/◌, ◌%◌, ◌^◌, ◌<◌, List, [], ◌∷◌, length, get_or, drop, fold, bit_xor, ◌==◌, if◌then◌else◌, refl, sym, ap, ◌∙◌, arith}
use Rattle.std.specs.Int.Bits.{xor_assoc, xor_zero_r, xor_shr, xor_mod, xor_shifted, shifted_half, shifted_even}
use Rattle.std.proofs.lemmas.Nat.{xor_comm, xor_lt}
use Rattle.std.proofs.Math.ListN.{drop_of_length-le}
use Rattle.std.proofs.Math.Seq.{drop-cons}
use Rattle.rw_codes.specs.Crc.{crc_bit, crc_bits, crc_byte}

xor_left_comm : (a b c : ℕ) → bit_xor a (bit_xor b c) ≡ bit_xor b (bit_xor a c)
xor_left_comm a b c = sym (xor_assoc a b c) ∙ ap (λ x. bit_xor x c) (xor_comm a b) ∙ xor_assoc b a c

-- `(a ^ b) ^ (c ^ d)` pairs the other way
xor_swap : (a b c d : ℕ) → bit_xor (bit_xor a b) (bit_xor c d) ≡ bit_xor (bit_xor a c) (bit_xor b d)
xor_swap a b c d = xor_assoc a b (bit_xor c d) ∙ ap (bit_xor a) (xor_left_comm b c d) ∙ sym (xor_assoc a c (bit_xor b d))

-- what the lowest bit adds to the others
abbrev fed : ℕ → ℕ → ℕ
fed low others = if low == 0 then others else bit_xor 0x82F63B78 others

fed_xor : (r s g h : ℕ) → r < 2 → s < 2 → fed (bit_xor r s) (bit_xor g h) ≡ bit_xor (fed r g) (fed s h)
fed_xor zero zero g h p q = refl
fed_xor zero (suc zero) g h p q = xor_left_comm 0x82F63B78 g h
fed_xor (suc zero) zero g h p q = sym (xor_assoc 0x82F63B78 g h)
fed_xor (suc zero) (suc zero) g h p q = sym (xor_swap 0x82F63B78 g 0x82F63B78 h)
fed_xor zero (suc (suc s)) g h p q = absurd (omega arith)
fed_xor (suc zero) (suc (suc s)) g h p q = absurd (omega arith)
fed_xor (suc (suc r)) s g h p q = absurd (omega arith)

bit_of_xor : (a b : ℕ) → crc_bit (bit_xor a b) ≡ bit_xor (crc_bit a) (crc_bit b)
bit_of_xor a b =
    ap (λ r. fed r (bit_xor a b / 2)) (xor_mod a b 1) ∙ ap (fed (bit_xor (a % 2) (b % 2))) (xor_shr a b 1)
    ∙ fed_xor (a % 2) (b % 2) (a / 2) (b / 2) (omega arith) (omega arith)

bits_of_xor : (k a b : ℕ) → crc_bits k (bit_xor a b) ≡ bit_xor (crc_bits k a) (crc_bits k b)
unfolding crc_bits
bits_of_xor zero a b = refl
bits_of_xor (suc k) a b = ap (crc_bits k) (bit_of_xor a b) ∙ bits_of_xor k (crc_bit a) (crc_bit b)

bits_in_two : (j k c : ℕ) → crc_bits (j + k) c ≡ crc_bits k (crc_bits j c)
unfolding crc_bits
bits_in_two zero k c = let e : 0 + k ≡ k = omega arith in rw e refl
bits_in_two (suc j) k c = let e : suc j + k ≡ suc (j + k) = omega arith in rw e (bits_in_two j k (crc_bit c))

bit_of_even : (n k : ℕ) → crc_bit (n * 2 ^ suc k) ≡ n * 2 ^ k
bit_of_even n k = ap (λ r. fed r (n * 2 ^ suc k / 2)) (shifted_even n k) ∙ shifted_half n k

-- k zero bits are only shifted out
bits_of_zeros : (k n : ℕ) → crc_bits k (n * 2 ^ k) ≡ n
unfolding crc_bits
bits_of_zeros zero n = omega arith
bits_of_zeros (suc k) n = ap (crc_bits k) (bit_of_even n k) ∙ bits_of_zeros k n

-- the lowest byte is divided, and the others move down
byte_out : (c : ℕ) → crc_bits 8 c ≡ bit_xor (c / 256) (crc_bits 8 (c % 256))
byte_out c =
    let parts : bit_xor (c / 256 * 2 ^ 8) (c % 256) ≡ c = xor_shifted (c / 256) 8 (c % 256) (omega arith) ∙ omega arith in
    ap (crc_bits 8) (sym parts) ∙ bits_of_xor 8 (c / 256 * 2 ^ 8) (c % 256) ∙ ap (λ x. bit_xor x (crc_bits 8 (c % 256))) (bits_of_zeros 8 (c / 256))

-- one byte by one look-up
pub one_byte : (c b : ℕ) → bit_xor (crc_bits 8 (bit_xor (c % 256) b)) (c / 256) ≡ crc_byte c b
one_byte c b =
    ap (λ x. bit_xor x (c / 256)) (bits_of_xor 8 (c % 256) b) ∙ xor_comm _ (c / 256) ∙ sym (xor_assoc (c / 256) _ _)
    ∙ ap (λ x. bit_xor x (crc_bits 8 b)) (sym (byte_out c)) ∙ sym (bits_of_xor 8 c b)

-- each byte, followed by the zero bytes that the ones after it leave room for
abbrev sum_of : List ℕ → ℕ
sum_of [] = 0
sum_of (b ∷ bs) = bit_xor (crc_bits (8 + 8 * length bs) b) (sum_of bs)

-- the code after the bytes is the sum of what each part would give alone
fold_is_sum : (c : ℕ) (bs : List ℕ) → fold crc_byte c bs ≡ bit_xor (crc_bits (8 * length bs) c) (sum_of bs)
unfolding crc_bits
fold_is_sum c [] = sym (xor_zero_r c)
fold_is_sum c (b ∷ bs) =
    let n : ℕ = 8 * length bs in
    let e : 8 + n ≡ 8 * suc (length bs) = omega arith in
    fold_is_sum (crc_byte c b) bs ∙ ap (λ x. bit_xor x (sum_of bs)) (sym (bits_in_two 8 n (bit_xor c b)) ∙ bits_of_xor (8 + n) c b)
    ∙ xor_assoc (crc_bits (8 + n) c) (crc_bits (8 + n) b) (sum_of bs) ∙ ap (λ m. bit_xor (crc_bits m c) (sum_of (b ∷ bs))) e

-- the lowest byte of a code, and the others, which come a byte earlier
low_byte_apart : (k c : ℕ) → crc_bits (8 + k) c ≡ bit_xor (crc_bits (8 + k) (c % 256)) (crc_bits k (c / 256))
low_byte_apart k c =
    bits_in_two 8 k c ∙ ap (crc_bits k) (byte_out c) ∙ bits_of_xor k (c / 256) (crc_bits 8 (c % 256))
    ∙ xor_comm (crc_bits k (c / 256)) (crc_bits k (crc_bits 8 (c % 256)))
    ∙ ap (λ x. bit_xor x (crc_bits k (c / 256))) (sym (bits_in_two 8 k (c % 256)))

-- the elements of a list from i on
abbrev pub listing : List ℕ → ℕ → ℕ → List ℕ
listing xs i zero = []
listing xs i (suc n) = get_or xs i 0 ∷ listing xs (suc i) n

pub listed : (xs : List ℕ) (n i : ℕ) → i + n ≡ length xs → drop i xs ≡ listing xs i n
listed xs zero i h = drop_of_length-le xs (omega arith)
listed xs (suc n) i h = drop-cons xs i 0 (omega arith) ∙ ap (λ ys. get_or xs i 0 ∷ ys) (listed xs n (suc i) (omega arith))

-- the sum of eight, as the code takes it
abbrev pub sum_of_eight : (a b c d e f g h : ℕ) → ℕ
sum_of_eight a b c d e f g h = bit_xor (bit_xor (bit_xor (bit_xor (bit_xor (bit_xor (bit_xor a b) c) d) e) f) g) h

abbrev sum_of_four : (a b c d : ℕ) → ℕ
sum_of_four a b c d = bit_xor a (bit_xor b (bit_xor c d))

two_fours : (a b c d e f g h : ℕ) → sum_of_eight a b c d e f g h ≡ bit_xor (sum_of_four a b c d) (sum_of_four e f g h)
two_fours a b c d e f g h = simp xor_assoc

four_and_more : (a b c d e : ℕ) → bit_xor (sum_of_four a b c d) e ≡ bit_xor a (bit_xor b (bit_xor c (bit_xor d e)))
four_and_more a b c d e = simp xor_assoc

four_bytes_apart : (c : ℕ) → c < 2 ^ 32
    → crc_bits 64 c ≡ sum_of_four (crc_bits 64 (c % 256)) (crc_bits 56 (c / 256 % 256)) (crc_bits 48 (c / 65536 % 256)) (crc_bits 40 (c / 16777216 % 256))
four_bytes_apart c fits =
    let third : c / 256 / 256 ≡ c / 65536 = omega arith in
    let fourth : c / 65536 / 256 ≡ c / 16777216 % 256 = omega arith in
    let p0 = low_byte_apart 56 c in
    let p1 = low_byte_apart 48 (c / 256) in
    let p2 = low_byte_apart 40 (c / 65536) in
    rw (p0, p1, third, p2, fourth) refl

-- eight bytes by eight look-ups, if w is the first four as a number
pub eight_bytes : (c w b0 b1 b2 b3 b4 b5 b6 b7 : ℕ) → c < 2 ^ 32 → b0 < 256 → b1 < 256 → b2 < 256 → b3 < 256
    → w ≡ b0 + b1 * 256 + b2 * 65536 + b3 * 16777216
    → let n : ℕ = bit_xor c w in
    sum_of_eight (crc_bits 64 (n % 256)) (crc_bits 56 (n / 256 % 256)) (crc_bits 48 (n / 65536 % 256)) (crc_bits 40 (n / 16777216 % 256))
    (crc_bits 32 b4) (crc_bits 24 b5) (crc_bits 16 b6) (crc_bits 8 b7)
    ≡ fold crc_byte c (b0 ∷ b1 ∷ b2 ∷ b3 ∷ b4 ∷ b5 ∷ b6 ∷ b7 ∷ [])
eight_bytes c w b0 b1 b2 b3 b4 b5 b6 b7 fits f0 f1 f2 f3 e =
    let e0 : w % 256 ≡ b0 = omega arith in
    let e1 : w / 256 % 256 ≡ b1 = omega arith in
    let e2 : w / 65536 % 256 ≡ b2 = omega arith in
    let e3 : w / 16777216 % 256 ≡ b3 = omega arith in
    let small : w < 2 ^ 32 = omega arith in
    let first = rw (e0, e1, e2, e3) at (four_bytes_apart w small) in
    let n : ℕ = bit_xor c w in
    let later : ℕ = sum_of_four (crc_bits 32 b4) (crc_bits 24 b5) (crc_bits 16 b6) (crc_bits 8 b7) in
    two_fours (crc_bits 64 (n % 256)) (crc_bits 56 (n / 256 % 256)) (crc_bits 48 (n / 65536 % 256)) (crc_bits 40 (n / 16777216 % 256))
    (crc_bits 32 b4) (crc_bits 24 b5) (crc_bits 16 b6) (crc_bits 8 b7)
    ∙ ap (λ x. bit_xor x later) (sym (four_bytes_apart n (xor_lt 32 c w fits small)) ∙ bits_of_xor 64 c w)
    ∙ xor_assoc (crc_bits 64 c) (crc_bits 64 w) later
    ∙ ap (λ x. bit_xor (crc_bits 64 c) (bit_xor x later)) first
    ∙ ap (bit_xor (crc_bits 64 c)) (four_and_more (crc_bits 64 b0) (crc_bits 56 b1) (crc_bits 48 b2) (crc_bits 40 b3) later)
    ∙ sym (rw xor_zero_r at (fold_is_sum c (b0 ∷ b1 ∷ b2 ∷ b3 ∷ b4 ∷ b5 ∷ b6 ∷ b7 ∷ [])))
