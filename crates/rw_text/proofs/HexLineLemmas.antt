-- The lines at fault.
use Rattle.std.proofs.Common.{◌≡◌, ℕ, ◌+◌, ◌-◌, ◌<◌, List, length, take, get_or, true, false, not, refl, ap, Option, Some, None, unwrap_or, MatchOption, Err, arith}
use Rattle.std.specs.List.{All, before_last, suffix_len, EachIndex}
use Rattle.std.proofs.lemmas.Grind.{get_or_default_zero}
use Rattle.std.proofs.lemmas.List.Folds.{list_any_at, list_any_none}
use Rattle.std.proofs.lemmas.List.Sums.{position_or_len_is, suffix_len_is}
use Rattle.rw_text.specs.HexText.{is_foreign, is_digit, digit_values, bytes_of, line_after, bytes_or_line, read_text}

-- the first foreign character
pub foreign_at : (text : List ℕ) (i : ℕ) → i < length text → is_foreign (get_or text i 0) ≡ true → ((k : ℕ) → k < i → is_foreign (get_or text k 0) ≡ false)
    → read_text text ≡ Err (line_after (take i text))
unfolding read_text
foreign_at text i lt at before =
    rw (list_any_at is_foreign text i 0 lt at, position_or_len_is is_foreign text i 0 (omega arith) before (λ _. at)) refl

-- without a foreign character the digits decide
pub no_foreign : (text : List ℕ) → EachIndex text (λ k. is_foreign (get_or text k 0) ≡ false) → read_text text ≡ bytes_or_line (bytes_of (digit_values text)) (line_after (before_last is_digit text))
unfolding read_text
no_foreign text each =
    let none : All (λ c. is_foreign c ≡ false) text = λ k d lt. rw (get_or_default_zero text k d lt) (each k lt) in
    rw (list_any_none is_foreign text none) refl

add-sub : (i : ℕ) → i + 1 - 1 ≡ i
add-sub i = omega arith

-- what is before the last digit
pub last_at : (text : List ℕ) (r : Option ℕ)
    → MatchOption r (EachIndex text (λ k. is_digit (get_or text k 0) ≡ false))
    (λ i. (i < length text) × (is_digit (get_or text i 0) ≡ true) × ((k : ℕ) → i < k → k < length text → is_digit (get_or text k 0) ≡ false))
    → take (unwrap_or r 0) text ≡ before_last is_digit text
last_at text None h =
    let len : suffix_len (λ c. not (is_digit c)) text ≡ length text - 0 =
    suffix_len_is (λ c. not (is_digit c)) text 0 0 (omega arith) (λ k _ lt. ap not (h k lt)) (λ lt. absurd (omega arith)) in
    let none : 0 ≡ length text - suffix_len (λ c. not (is_digit c)) text - 1 = omega (arith, len) in
    ap (λ n. take n text) none
last_at text (Some i) h =
    let len : suffix_len (λ c. not (is_digit c)) text ≡ length text - (i + 1) =
    suffix_len_is (λ c. not (is_digit c)) text (i + 1) 0 (omega (arith, h.0)) (λ k le lt. ap not (h.2 k (omega arith) lt)) (λ _. rw (add-sub i) (ap not h.1)) in
    let at : i ≡ length text - suffix_len (λ c. not (is_digit c)) text - 1 = omega (arith, len, h.0) in
    ap (λ n. take n text) at
