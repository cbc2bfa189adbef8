-- Decimal digits, read from the left.
use Rattle.std.proofs.Common.{◌≡◌, ◌<◌, ◌≤◌, ◌+◌, ◌-◌, ◌*◌, ◌^◌, ℕ, List, length, take, get_or, true, false, ◌∙◌, arith}
use Rattle.std.specs.Int.{IsInRange}
use Rattle.std.specs.Str.Parse.{AllDigits, digits_value}
use Rattle.std.specs.Char.{digit_value, is_ascii_digit}
use Rattle.std.proofs.lemmas.Bool.{and_parts, and_from, leb-true, le-leb, both_ways}
use Rattle.std.proofs.lemmas.Int.Digits.{digits_value_more, digits_more}
use Rattle.std.proofs.lemmas.Str.{digit_value_digit}
use Rattle.std.proofs.lemmas.Str.Parse.{digit_at, digits_value-take-le}
use Rattle.rw_text.specs.Numbers.{IsNumber}

pub digit_from_test : (c : ℕ) → is_ascii_digit c ≡ true → IsInRange 48 57 c
digit_from_test c h = let p = and_parts _ _ h in (leb-true 48 c p.0, leb-true c 57 p.1)

pub none_from_test : (c : ℕ) → is_ascii_digit c ≡ false → IsInRange 48 57 c → ⊥
none_from_test c h r = both_ways (is_ascii_digit c) h (and_from _ _ (le-leb 48 c r.0) (le-leb c 57 r.1))

pub no_digit : (text : List ℕ) (n i : ℕ) → i < length text → (IsInRange 48 57 (get_or text i 0) → ⊥) → IsNumber text n → ⊥
no_digit text n i within bad h = bad (digit_at text i h.digits.1 within)

-- one more digit
pub value_more : (text : List ℕ) (i number : ℕ) → i < length text → IsInRange 48 57 (get_or text i 0) → number ≡ digits_value 10 (take i text)
    → digits_value 10 (take (i + 1) text) ≡ number * 10 + (get_or text i 0 - 48)
value_more text i number within range e =
    let d : digit_value (get_or text i 0) + 48 ≡ get_or text i 0 = digit_value_digit (get_or text i 0) range in
    digits_value_more 10 text i within ∙ omega (arith, e, d)

pub digits_are_more : (text : List ℕ) (i : ℕ) → i < length text → IsInRange 48 57 (get_or text i 0) → AllDigits 10 (take i text) → AllDigits 10 (take (i + 1) text)
digits_are_more text i within range h = digits_more 10 text i within h (omega (arith, digit_value_digit (get_or text i 0) range))

-- if a beginning is too great, the whole is
pub too_great : (text : List ℕ) (n i number : ℕ) → i < length text → IsInRange 48 57 (get_or text i 0) → number ≡ digits_value 10 (take i text)
    → 2 ^ 64 ≤ number * 10 + (get_or text i 0 - 48) → n < 2 ^ 64 → IsNumber text n → ⊥
too_great text n i number within range e great small h =
    omega (arith, value_more text i number within range e, digits_value-take-le 10 text (i + 1) (omega arith), h.value)
