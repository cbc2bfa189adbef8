-- The values of samples as decimals: `0.25`, `-1.5e-7`.
use Rattle.std.specs.Prelude.{◌≡◌, ℕ, List, Option, Some, None, Bool, ◌==◌, ◌&&◌, ◌||◌, not, if◌then◌else◌, MatchBool, to_bits, from_bits}
use Rattle.std.specs.List.{list_any}
use Rattle.std.specs.Option.{option_and_then, is_none}
use Rattle.std.specs.Float.{Float, binary64, float_is_finite}
use Rattle.fast_float.specs.Parse.{parse_float}
use Rattle.ryu.specs.Plain.{IsPlainNumber}
use Rattle.rw_types.specs.Words.{int_of_word}
use Rattle.rw_text.specs.ValueText.{value_text}

-- a point, or the letter before an exponent
abbrev pub is_mark : ℕ → Bool
is_mark b = b == 46 || b == 101 || b == 69

-- the `x` of the digits of a word
abbrev pub is_x : ℕ → Bool
is_x b = b == 120

-- a text with a point or an exponent that is not the digits of a word
abbrev pub is_marked : List ℕ → Bool
is_marked text = list_any is_mark text && not (list_any is_x text)

-- the word of a number that is neither infinite nor a NaN
abbrev pub finite_word : Float → Option ℕ
finite_word x = if float_is_finite x then Some (to_bits binary64 x) else None

-- the word of the number that is nearest to a decimal with a point or an exponent (IEEE 754,
-- binary64)
unfoldable pub decimal_word : List ℕ → Option ℕ
decimal_word text = if is_marked text then option_and_then finite_word (parse_float binary64 text) else None

-- a finite number that is no whole number from -2^53 to 2^53, or is -0
abbrev pub has_decimal : ℕ → Bool
has_decimal word = is_none (int_of_word word) && float_is_finite (from_bits binary64 word)

-- a decimal that is read as this word
pub record IsDecimalOf (word : ℕ) (text : List ℕ) : Type 0 where
  pub plain : IsPlainNumber text
  pub reads : decimal_word text ≡ Some word

-- The text of a value with decimals. Whole numbers, infinities and NaNs have the text that they
-- have without.
abbrev pub IsDecimalText : ℕ → List ℕ → Type 0
IsDecimalText word text = MatchBool (has_decimal word) (IsDecimalOf word text) (text ≡ value_text word)

abbrev pub exact_or : Option ℕ → List ℕ → List ℕ
exact_or (Some word) text = value_text word
exact_or None text = text

-- the text that log text has in place of a value: that of its word, if it is a decimal
abbrev pub exact_value : List ℕ → List ℕ
exact_value text = exact_or (decimal_word text) text
