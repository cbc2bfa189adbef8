-- Hexadecimal text of bytes, in lower case: two digits for each byte, the high four bits first.
use Rattle.std.specs.Prelude.{ℕ, ◌+◌, ◌-◌, ◌*◌, List, [], ◌∷◌, Bool, not, ◌&&◌, ◌||◌, ◌==◌, nat_le, count_by, Option, Some, None, is_some, Result, Ok, Err, if◌then◌else◌}
use Rattle.std.specs.List.{filter_map, list_any, list_all, before_first, before_last}
use Rattle.std.specs.Option.{option_map}
use Rattle.hex.specs.Hex.{encode_lower}

-- the text of some bytes
abbrev pub hex_text : List ℕ → List ℕ
hex_text bytes = encode_lower bytes

-- the value of a digit: `0` to `9` are 48 to 57, and `a` to `f` are 97 to 102
abbrev pub hex_digit_value : ℕ → Option ℕ
hex_digit_value c =
    if nat_le 48 c && nat_le c 57 then Some (c - 48)
    else if nat_le 97 c && nat_le c 102 then Some (c - 87)
    else None

abbrev pub is_digit : ℕ → Bool
is_digit c = is_some (hex_digit_value c)

-- space, tab, CR and LF
abbrev pub is_white_space : ℕ → Bool
is_white_space c = c == 32 || c == 9 || c == 13 || c == 10

-- neither a digit nor white space
abbrev pub is_foreign : ℕ → Bool
is_foreign c = not (is_digit c || is_white_space c)

-- the values of the digits of a text
abbrev pub digit_values : List ℕ → List ℕ
digit_values text = filter_map hex_digit_value text

-- the bytes of pairs of digits, if no digit is left over
unfoldable pub bytes_of : List ℕ → Option (List ℕ)
bytes_of [] = Some []
bytes_of (digit ∷ []) = None
bytes_of (high ∷ low ∷ rest) = option_map (λ bytes. (high * 16 + low) ∷ bytes) (bytes_of rest)

-- the line in which the text after this one begins, counted from 1; LF ends a line, and nothing
-- else does
abbrev pub line_after : List ℕ → ℕ
line_after text = 1 + count_by (λ c. c == 10) text

-- the bytes, or the line at fault
abbrev pub bytes_or_line : Option (List ℕ) → ℕ → Result (List ℕ) ℕ
bytes_or_line (Some bytes) line = Ok bytes
bytes_or_line None line = Err line

-- What a text with white space anywhere stands for. The line at fault is that of the first foreign
-- character, or, if the digits are odd in number, that of the last digit.
unfoldable pub read_text : List ℕ → Result (List ℕ) ℕ
read_text text =
    if list_any is_foreign text then Err (line_after (before_first is_foreign text))
    else bytes_or_line (bytes_of (digit_values text)) (line_after (before_last is_digit text))

-- what a text of digits alone stands for
unfoldable pub read_digits : List ℕ → Option (List ℕ)
read_digits text = if list_all is_digit text then bytes_of (digit_values text) else None
