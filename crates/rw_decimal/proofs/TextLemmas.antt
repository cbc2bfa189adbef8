-- Which texts have a point or an exponent, and which the digits of a word.
use Rattle.std.proofs.Common.{◌≡◌, ℕ, ◌<◌, ◌==◌, ◌||◌, ◌&&◌, Bool, true, false, List, [], ◌∷◌, ◌++◌, length, refl, ap, ◌∙◌, inl, inr, arith, ne_eqb, if◌then◌else◌}
use Rattle.std.specs.Int.{IsInRange}
use Rattle.std.specs.List.{list_any}
use Rattle.std.specs.Fmt.{sign_text}
use Rattle.std.specs.Str.Parse.{AllDigits}
use Rattle.std.proofs.lemmas.List.Folds.{list_any-append}
use Rattle.std.proofs.lemmas.Str.Parse.{digit_from_value}
use Rattle.fast_float.specs.Text.{Parts, text_of, exponent_text}
use Rattle.ryu.specs.Plain.{IsPlain, IsPlainNumber}
use Rattle.rw_text.specs.ValueText.{IsValue, hex_word_text}
use Rattle.rw_decimal.specs.Decimals.{is_mark, is_x, is_marked}

or_true : (a : Bool) → (a || true) ≡ true
or_true true = refl
or_true false = refl

and_false : (a : Bool) → (a && false) ≡ false
and_false true = refl
and_false false = refl

-- ---- texts that are joined

both_none : (test : ℕ → Bool) (xs ys : List ℕ) → list_any test xs ≡ false → list_any test ys ≡ false → list_any test (xs ++ ys) ≡ false
both_none test xs ys a b = list_any-append test xs ys ∙ ap (λ k. k || list_any test ys) a ∙ b

any_left : (test : ℕ → Bool) (xs ys : List ℕ) → list_any test xs ≡ true → list_any test (xs ++ ys) ≡ true
any_left test xs ys a = list_any-append test xs ys ∙ ap (λ k. k || list_any test ys) a

any_right : (test : ℕ → Bool) (xs ys : List ℕ) → list_any test ys ≡ true → list_any test (xs ++ ys) ≡ true
any_right test xs ys b = list_any-append test xs ys ∙ ap (λ k. list_any test xs || k) b ∙ or_true (list_any test xs)

-- ---- digits

none_of_digits : (test : ℕ → Bool) → ((c : ℕ) → IsInRange 48 57 c → test c ≡ false) → (ds : List ℕ) → AllDigits 10 ds → list_any test ds ≡ false
none_of_digits test fails [] h = refl
none_of_digits test fails (c ∷ cs) h = ap (λ k. k || list_any test cs) (fails c (digit_from_value c h.0)) ∙ none_of_digits test fails cs h.1

x_no_digit : (c : ℕ) → IsInRange 48 57 c → is_x c ≡ false
x_no_digit c r = ne_eqb c 120 (λ e. omega (arith, r.1, e))

mark_no_digit : (c : ℕ) → IsInRange 48 57 c → is_mark c ≡ false
mark_no_digit c r =
    ap (λ k. (k || c == 101) || c == 69) (ne_eqb c 46 (λ e. omega (arith, r.0, e)))
    ∙ ap (λ k. k || c == 69) (ne_eqb c 101 (λ e. omega (arith, r.1, e)))
    ∙ ne_eqb c 69 (λ e. omega (arith, r.1, e))

-- ---- plain numbers

sign_no_x : (negative : Bool) → list_any is_x (sign_text negative) ≡ false
sign_no_x true = refl
sign_no_x false = refl

exponent_no_x : (negative : Bool) (ds : List ℕ) → AllDigits 10 ds → list_any is_x (exponent_text negative ds) ≡ false
exponent_no_x negative [] h = refl
exponent_no_x negative (d ∷ ds) h = both_none is_x (sign_text negative) (d ∷ ds) (sign_no_x negative) (none_of_digits is_x x_no_digit (d ∷ ds) h)

fraction_no_x : (point : Bool) (ds : List ℕ) → AllDigits 10 ds → list_any is_x (if point then 46 ∷ ds else []) ≡ false
fraction_no_x true ds h = none_of_digits is_x x_no_digit ds h
fraction_no_x false ds h = refl

plain_no_x : (p : Parts) → IsPlain p → list_any is_x (text_of p) ≡ false
plain_no_x p h =
    let point = if p.point then 46 ∷ p.fraction else [] in let exponent = exponent_text p.exponent_negative p.exponent in
    both_none is_x p.whole (point ++ exponent) (none_of_digits is_x x_no_digit p.whole h.well_formed.whole_digits)
    (both_none is_x point exponent (fraction_no_x p.point p.fraction h.well_formed.fraction_digits) (exponent_no_x p.exponent_negative p.exponent h.well_formed.exponent_digits))

mark_after_whole : (point negative : Bool) (fraction exponent : List ℕ) → (point ≡ false → 0 < length exponent)
    → list_any is_mark ((if point then 46 ∷ fraction else []) ++ exponent_text negative exponent) ≡ true
mark_after_whole true negative fraction exponent h = any_left is_mark (46 ∷ fraction) (exponent_text negative exponent) refl
mark_after_whole false negative fraction [] h = absurd (omega (arith, h refl))
mark_after_whole false negative fraction (d ∷ ds) h = refl

plain_mark : (p : Parts) → IsPlain p → list_any is_mark (text_of p) ≡ true
plain_mark p h =
    any_right is_mark p.whole ((if p.point then 46 ∷ p.fraction else []) ++ exponent_text p.exponent_negative p.exponent)
    (mark_after_whole p.point p.exponent_negative p.fraction p.exponent h.marked)

marked_by : (text : List ℕ) → list_any is_mark text ≡ true → list_any is_x text ≡ false → is_marked text ≡ true
marked_by text a b = rw (a, b) refl

pub plain_is_marked : (text : List ℕ) → IsPlainNumber text → is_marked text ≡ true
plain_is_marked text (negative, p, e, h) =
    ap is_marked e ∙ marked_by (sign_text negative ++ text_of p) (any_right is_mark (sign_text negative) (text_of p) (plain_mark p h))
    (both_none is_x (sign_text negative) (text_of p) (sign_no_x negative) (plain_no_x p h))

-- ---- the values of log text

unmarked : (text : List ℕ) → list_any is_mark text ≡ false → is_marked text ≡ false
unmarked text a = rw a refl

pub value_is_unmarked : (text : List ℕ) (word : ℕ) → IsValue text word → is_marked text ≡ false
value_is_unmarked text word (inl (m, inl (n, h, e), w)) = unmarked text (none_of_digits is_mark mark_no_digit text h.digits.1)
value_is_unmarked text word (inl (m, inr (n, digits, e, h, f), w)) = ap is_marked e ∙ unmarked (45 ∷ digits) (none_of_digits is_mark mark_no_digit digits h.digits.1)
value_is_unmarked text word (inr e) = ap is_marked e ∙ and_false (list_any is_mark (hex_word_text word))
