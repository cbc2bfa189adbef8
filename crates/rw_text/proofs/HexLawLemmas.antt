-- What was printed is read again.
use Rattle.std.proofs.Common.{◌≡◌, ℕ, ◌+◌, ◌*◌, ◌/◌, ◌%◌, ◌<◌, zero, suc, List, [], ◌∷◌, slice_index, Bool, true, false, ◌&&◌, ◌==◌, refl, ap, Option, Some, None, unwrap_or, arith, inl, inr}
use Rattle.std.specs.List.{list_any, list_all}
use Rattle.std.proofs.lemmas.Bool.{and_parts, cases_lt, eqb-true}
use Rattle.hex.specs.Hex.{IsBytes, encode_with, lower_digits}
use Rattle.rw_text.specs.HexText.{hex_text, hex_digit_value, is_digit, is_foreign, digit_values, bytes_of}

-- the test of one digit that is printed, which computes
abbrev reads_back : ℕ → Bool
reads_back d = unwrap_or (hex_digit_value (slice_index lower_digits d)) 99 == d

abbrev all_read_back : ℕ → Bool
all_read_back zero = true
all_read_back (suc n) = reads_back n && all_read_back n

all_read_back-at : (n k : ℕ) → all_read_back n ≡ true → k < n → reads_back k ≡ true
all_read_back-at zero k h lt = absurd (omega arith)
all_read_back-at (suc n) k h lt =
    let parts = and_parts (reads_back n) (all_read_back n) h in
    elim (cases_lt k n) [
      | inl below ↦ all_read_back-at n k parts.1 below
      | inr top ↦
          let e : k ≡ n = omega arith in
          rw e parts.0
    ]

some_from_unwrap : (o : Option ℕ) (d : ℕ) → d < 16 → unwrap_or o 99 ≡ d → o ≡ Some d
some_from_unwrap (Some v) d lt e = ap Some e
some_from_unwrap None d lt e = absurd (omega arith)

-- a digit that is printed has its value
printed : (d : ℕ) → d < 16 → hex_digit_value (slice_index lower_digits d) ≡ Some d
printed d lt =
    some_from_unwrap (hex_digit_value (slice_index lower_digits d)) d lt
    (eqb-true (unwrap_or (hex_digit_value (slice_index lower_digits d)) 99) d (all_read_back-at 16 d refl lt))

-- a printed text has only digits, and they are those of the bytes
pub all_digits : (bytes : List ℕ) → IsBytes bytes → list_all is_digit (hex_text bytes) ≡ true
unfolding encode_with
all_digits [] h = refl
all_digits (b ∷ rest) h =
    let fits : b < 256 = h 0 in
    let high : b / 16 < 16 = omega arith in
    let low : b % 16 < 16 = omega arith in
    let ih = all_digits rest (λ k. h (suc k)) in
    rw (printed (b / 16) high, printed (b % 16) low) ih

pub none_foreign : (bytes : List ℕ) → IsBytes bytes → list_any is_foreign (hex_text bytes) ≡ false
unfolding encode_with
none_foreign [] h = refl
none_foreign (b ∷ rest) h =
    let fits : b < 256 = h 0 in
    let high : b / 16 < 16 = omega arith in
    let low : b % 16 < 16 = omega arith in
    let ih = none_foreign rest (λ k. h (suc k)) in
    rw (printed (b / 16) high, printed (b % 16) low) ih

pub bytes_back : (bytes : List ℕ) → IsBytes bytes → bytes_of (digit_values (hex_text bytes)) ≡ Some bytes
unfolding encode_with bytes_of
bytes_back [] h = refl
bytes_back (b ∷ rest) h =
    let fits : b < 256 = h 0 in
    let high : b / 16 < 16 = omega arith in
    let low : b % 16 < 16 = omega arith in
    let ih = bytes_back rest (λ k. h (suc k)) in
    let whole : b / 16 * 16 + b % 16 ≡ b = omega arith in
    rw (printed (b / 16) high, printed (b % 16) low) (rw (ih, whole) refl)
