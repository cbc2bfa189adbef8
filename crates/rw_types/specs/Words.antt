-- The 64-bit words of whole numbers (IEEE 754 binary64), from -2^53 to 2^53.
use Rattle.std.specs.Prelude.{ℕ, ◌+◌, ◌-◌, ◌*◌, ◌/◌, ◌%◌, ◌^◌, ℤ, nat_abs, int_lt, pos, neg_ℤ, Option, Some, None, Bool, false, nat_le, ◌==◌, if◌then◌else◌}
use Rattle.std.specs.Int.Count.{count_leading_zeros}

-- the place of the highest bit of a number that is not 0
abbrev pub highest_bit : ℕ → ℕ
highest_bit n = 63 - count_leading_zeros 64 n

-- exponent and fraction of a number that is not 0
abbrev pub magnitude_word : ℕ → ℕ
magnitude_word n = let k = highest_bit n in (1023 + k) * 2 ^ 52 + (n - 2 ^ k) * 2 ^ (52 - k)

-- the word of a whole number (IEEE 754, binary64), exact up to 2 ^ 53
unfoldable pub word_of_int : ℤ → Option ℕ
word_of_int m =
    if nat_abs m == 0 then Some 0
    else if nat_le (nat_abs m) (2 ^ 53) then Some ((if int_lt m (pos 0) then 2 ^ 63 else 0) + magnitude_word (nat_abs m))
    else None

-- the absolute value of the whole number that has this word: its highest bit and the fraction below
-- it
abbrev pub size_of_word : ℕ → ℕ
size_of_word w =
    if w == 0 then 0
    else let k = w / 2 ^ 52 % 2048 - 1023 in 2 ^ k + w % 2 ^ 52 / 2 ^ (52 - k)

-- whether a whole number has a word, and it is this one
abbrev pub has_word : Option ℕ → ℕ → Bool
has_word None w = false
has_word (Some v) w = v == w

-- the whole number from -2^53 to 2^53 whose word this is, if there is one
unfoldable pub int_of_word : ℕ → Option ℤ
int_of_word w =
    let size = pos (size_of_word w) in
    if has_word (word_of_int size) w then Some size
    else if has_word (word_of_int (neg_ℤ size)) w then Some (neg_ℤ size)
    else None
