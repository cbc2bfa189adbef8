-- A word is printed as a decimal that is read as the word.
use Rattle.std.proofs.Common.{◌≡◌, ℕ, ◌<◌, ◌%◌, ◌*◌, ◌^◌, Bool, true, false, T, not, List, Some, None, refl, sym, ap, ◌∙◌, arith, to_bits, from_bits, MatchBool}
use Rattle.std.proofs.lemmas.Bool.{lt-ltb, false≢true}
use Rattle.std.specs.Float.{Float, binary64, float_is_finite}
use Rattle.std.specs.Float.Ieee.{nan, inf, fin}
use lib.Ieee.{top, is_nan}
use lib.Ieee.Bits.{nan_bits_is, nan_bits_above, to_bits-of_bits}
use Rattle.fast_float.specs.Parse.{parse_float}
use Rattle.ryu.specs.Plain.{IsPlainNumber}
use Rattle.rw_text.specs.ValueText.{value_text}
use Rattle.rw_text.proofs.shared.OneLemmas.{value_printed}
use Rattle.rw_decimal.specs.Decimals.{decimal_word, finite_word, exact_value, has_decimal, IsDecimalOf, IsDecimalText}
use Rattle.rw_decimal.proofs.TextLemmas.{plain_is_marked, value_is_unmarked}

finite_no_nan : (x : Float) → float_is_finite x ≡ true → T (not (is_nan x))
unfolding float_is_finite is_nan
finite_no_nan nan e = absurd (false≢true e)
finite_no_nan (inf s) e = tt
finite_no_nan (fin s m e) h = tt

nan_not_finite : (x : Float) → is_nan x ≡ true → float_is_finite x ≡ false
unfolding float_is_finite is_nan
nan_not_finite nan e = refl
nan_not_finite (inf s) e = refl
nan_not_finite (fin s m e) h = absurd (false≢true h)

-- a NaN's word is above that of the infinity
pub above_is_not_finite : (bits : ℕ) → 0x7ff0_0000_0000_0000 < bits % 2 ^ 63 → float_is_finite (from_bits binary64 bits) ≡ false
above_is_not_finite bits h =
    nan_not_finite (from_bits binary64 bits) (sym (nan_bits_is binary64 bits) ∙ nan_bits_above binary64 bits ∙ lt-ltb 0x7ff0_0000_0000_0000 (bits % 2 ^ 63) h)

small_word : (word : ℕ) → word < 2 ^ 64 → word < 2 * top binary64
small_word word h = omega (arith, h)

finite_is : (x : Float) (word : ℕ) → float_is_finite x ≡ true → to_bits binary64 x ≡ word → finite_word x ≡ Some word
finite_is x word finite back = rw finite (ap Some back)

-- a plain number that is read as the float of a word is read as the word
pub decimal_of : (word : ℕ) (text : List ℕ) (x : Float) → word < 2 ^ 64 → x ≡ from_bits binary64 word → float_is_finite x ≡ true → IsPlainNumber text → parse_float binary64 text ≡ Some x
    → IsDecimalOf word text
unfolding decimal_word
decimal_of word text x small is finite plain parsed = record { plain = plain; reads = read }
  where
    back : to_bits binary64 x ≡ word
    back = ap (to_bits binary64) is ∙ to_bits-of_bits binary64 word (small_word word small) (finite_no_nan (from_bits binary64 word) (ap float_is_finite (sym is) ∙ finite))

    read : decimal_word text ≡ Some word
    read = rw (plain_is_marked text plain, parsed) (finite_is x word finite back)

no_decimal : (word : ℕ) → word < 2 ^ 64 → decimal_word (value_text word) ≡ None
unfolding decimal_word
no_decimal word small = rw (value_is_unmarked (value_text word) word (value_printed word small)) refl

read_by : (b : Bool) (word : ℕ) (text : List ℕ) → word < 2 ^ 64 → MatchBool b (IsDecimalOf word text) (text ≡ value_text word) → exact_value text ≡ value_text word
read_by true word text small h = rw h.reads refl
read_by false word text small e = ap exact_value e ∙ exact
  where
    exact : exact_value (value_text word) ≡ value_text word
    exact = rw (no_decimal word small) refl

pub read_again : (word : ℕ) (text : List ℕ) → word < 2 ^ 64 → IsDecimalText word text → exact_value text ≡ value_text word
read_again word text small h = read_by (has_decimal word) word text small h
