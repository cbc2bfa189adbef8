-- The values of samples as text: 64-bit words.
use Rattle.std.specs.Prelude.{◌≡◌, ◌⊎◌, ℕ, ℤ, List, ◌++◌, codes, Option, Some, None}
use Rattle.std.specs.Fmt.{signed_decimal}
use Rattle.byteorder.specs.Endian.{big_bytes}
use Rattle.rw_text.specs.HexText.{hex_text}
use Rattle.rw_types.specs.Words.{word_of_int, int_of_word}
use Rattle.rw_text.specs.Numbers.{IsInteger}

-- `0x` and the sixteen digits of a word
abbrev pub hex_word_text : ℕ → List ℕ
hex_word_text word = codes "0x" ++ hex_text (big_bytes 8 word)

-- the value that a text spells: a decimal whole number from -2^53 to 2^53, or the digits of its
-- word
abbrev pub IsValue : List ℕ → ℕ → Type 0
IsValue text word = ((m : ℤ) × IsInteger text m × (word_of_int m ≡ Some word)) ⊎ (text ≡ hex_word_text word)

abbrev pub number_or_digits : Option ℤ → ℕ → List ℕ
number_or_digits (Some m) word = signed_decimal m
number_or_digits None word = hex_word_text word

-- the text that a word prints: its whole number, if it has one, and otherwise its digits
unfoldable pub value_text : ℕ → List ℕ
value_text word = number_or_digits (int_of_word word) word
