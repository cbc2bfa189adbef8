-- The digits of a word are read again.
use Rattle.std.proofs.Common.{◌≡◌, ℕ, zero, suc, ◌/◌, ◌%◌, ◌^◌, ◌<◌, ◌==◌, ℤ, pos, negsuc, List, [], length, Bool, true, false, Result, Ok, Err, Some, is_err, MatchResult, refl, sym, ap, ◌∙◌, inl, inr, arith, FitsSigned, w64}
use Rattle.std.proofs.lemmas.Bool.{false≢true}
use Rattle.std.proofs.lemmas.Int.{ints}
use Rattle.std.specs.Int.{byte_at, bytes_high_first}
use Rattle.byteorder.specs.Endian.{big_bytes, big_number}
use Rattle.byteorder.specs.Numbers.{big_number-reads_back}
use Rattle.hex.specs.Hex.{IsBytes, decode_sized, lower_digits}
use Rattle.hex.specs.declared.error.FromHexError.{FromHexError}
use Rattle.hex.proofs.HexLemmas.{IsDigits-lower_digits, decode_pairs-encode_with, length-encode_with}
use Rattle.rw_text.specs.HexText.{hex_text}
use Rattle.rw_types.specs.Words.{word_of_int}
use Rattle.rw_types.proofs.shared.WordReads.{reads_word}

byte_small : (k n : ℕ) → byte_at k n < 256
byte_small zero n = omega arith
byte_small (suc k) n = omega arith

are_bytes : (k n : ℕ) → IsBytes (bytes_high_first k n)
are_bytes zero n i = omega arith
are_bytes (suc k) n zero = byte_small k n
are_bytes (suc k) n (suc i) = are_bytes k n i

pub decoded : (digits : List ℕ) (word : ℕ) → digits ≡ hex_text (big_bytes 8 word) → decode_sized digits 8 ≡ Ok (big_bytes 8 word)
decoded digits word e =
    let len : length digits ≡ 16 = rw e (length-encode_with lower_digits (big_bytes 8 word)) in
    let even : (length digits % 2 == 1) ≡ false = rw len refl in
    let eight : (length digits / 2 == 8) ≡ true = rw len refl in
    rw (even, eight) (rw e (decode_pairs-encode_with lower_digits IsDigits-lower_digits 0 (big_bytes 8 word) (are_bytes 8 word)))

pub decode_gives : (digits : List ℕ) (word : ℕ) (r : Result (Unit {0}) FromHexError) (out : List ℕ)
    → MatchResult (decode_sized digits 8) (λ bytes. (r ≡ Ok tt) × (out ≡ bytes)) (λ e. r ≡ Err e)
    → digits ≡ hex_text (big_bytes 8 word) → (r ≡ Ok tt) × (out ≡ big_bytes 8 word)
decode_gives digits word r out h e = rw (decoded digits word e) at h

pub no_error : (r : Result (Unit {0}) FromHexError) (b : Bool) → b ≡ is_err r → r ≡ Ok tt → b ≡ true → ⊥
no_error r b e ok t = false≢true (sym (e ∙ ap is_err ok) ∙ t)

pub word_again : (bytes : List ℕ) (word : ℕ) → word < 2 ^ 64 → bytes ≡ big_bytes 8 word → big_number 8 bytes ≡ word
word_again bytes word small e = ap (big_number 8) e ∙ big_number-reads_back 8 word [] small

-- a number that has a word fits 64 bits
pub has_room : (m : ℤ) (word : ℕ) → word_of_int m ≡ Some word → FitsSigned w64 m
has_room (pos n) word e = elim (reads_word (pos n) word e) [
  | inl z ↦ omega (arith, ints, z.0)
  | inr r ↦ omega (arith, ints, r.small)
]
has_room (negsuc n) word e = elim (reads_word (negsuc n) word e) [
  | inl z ↦ omega (arith, ints, z.0)
  | inr r ↦ omega (arith, ints, r.small)
]
