-- Each text stands for one value, and what is printed stands for what it was printed of.
use Rattle.std.proofs.Common.{◌≡◌, ◌<◌, ◌≤◌, ◌^◌, ℕ, suc, ℤ, pos, negsuc, neg_ℤ, List, [], ◌∷◌, ◌++◌, length, drop, Option, Some, None, Result, Ok, codes, refl, sym, ap, ap₂, ◌∙◌, subst, inl, inr, arith, FitsSigned, w64}
use Rattle.std.proofs.Math.ListN.{get_or}
use Rattle.std.specs.Fmt.{decimal, signed_decimal}
use Rattle.std.proofs.lemmas.Fmt.{decimal_is_IsNumeral}
use Rattle.std.proofs.lemmas.Int.{ints}
use Rattle.std.proofs.lemmas.List.{length-append}
use Rattle.std.proofs.lemmas.Str.Parse.{digit_from_value}
use Rattle.byteorder.specs.Endian.{big_bytes}
use Rattle.hex.specs.Hex.{decode_sized}
use Rattle.rw_text.specs.HexText.{hex_text, read_digits}
use Rattle.rw_types.specs.Labels.{Label, Labels}
use Rattle.rw_types.specs.Words.{word_of_int, int_of_word}
use Rattle.rw_types.proofs.shared.WordValues.{word-from_int_of_word}
use Rattle.rw_text.specs.LabelText.{labels_text, label_text}
use Rattle.rw_text.specs.LineText.{Line, series, sample, raw, IsSeriesLine, IsSampleLine, IsLine}
use Rattle.rw_text.specs.Numbers.{IsNumber, IsInteger}
use Rattle.rw_text.specs.ValueText.{IsValue, hex_word_text, value_text, number_or_digits}
use Rattle.rw_text.proofs.LabelLemmas.{label_some, more_text, no_comma, label_unique, labels_text-cons, labels_text-nil, tail_same}
use Rattle.rw_text.proofs.shared.LineLemmas.{raw_no_sample, raw_no_series, series_no_sample, series_parts, sample_parts, time_parts, number_without_space, integer_without_space}
use Rattle.rw_text.proofs.ValueLemmas.{decoded, has_room, word_again}

-- ---- numbers

pub number_one : (text : List ℕ) (m n : ℕ) → IsNumber text m → IsNumber text n → m ≡ n
number_one text m n h i = sym h.value ∙ i.value

-- no number begins with a minus
no_minus : (digits : List ℕ) (n : ℕ) → IsNumber (45 ∷ digits) n → ⊥
no_minus digits n h = let range = digit_from_value 45 h.digits.1.0 in omega (arith, range.0)

pub integer_one : (text : List ℕ) (y z : ℤ) → IsInteger text y → IsInteger text z → y ≡ z
integer_one text y z (inl (m, h, e)) (inl (n, i, f)) = e ∙ ap pos (number_one text m n h i) ∙ sym f
integer_one text y z (inl (m, h, e)) (inr (n, digits, f, i, g)) = absurd (no_minus digits m (subst (λ (t : List ℕ). IsNumber t m) f h))
integer_one text y z (inr (m, digits, f, h, e)) (inl (n, i, g)) = absurd (no_minus digits n (subst (λ (t : List ℕ). IsNumber t n) f i))
integer_one text y z (inr (m, digits, f, h, e)) (inr (n, others, g, i, k)) =
    let same : digits ≡ others = tail_same digits others 45 (sym f ∙ g) in
    e ∙ ap (λ (x : ℕ). neg_ℤ (pos x)) (number_one others m n (subst (λ (t : List ℕ). IsNumber t m) same h) i) ∙ sym k

pub number_printed : (n : ℕ) → n < 2 ^ 64 → IsNumber (decimal n) n
number_printed n h = let p = decimal_is_IsNumeral n h in record { digits = p.0; value = p.1 }

pub integer_printed : (z : ℤ) → FitsSigned w64 z → IsInteger (signed_decimal z) z
integer_printed (pos n) h = inl (n, number_printed n (omega (arith, ints, h)), refl)
integer_printed (negsuc n) h = inr (suc n, decimal (suc n), refl, number_printed (suc n) (omega (arith, ints, h)), refl)

-- ---- values

same_some : {A : Type 0} (a b : A) → Some a ≡ Some b → a ≡ b
same_some a b e = cc

-- no number begins with `0x`
no_prefix : (rest : List ℕ) (z : ℤ) → IsInteger (codes "0x" ++ rest) z → ⊥
no_prefix rest z (inl (n, h, e)) = let range = digit_from_value 120 h.digits.1.1.0 in omega (arith, range.1)
no_prefix rest z (inr (n, digits, e, h, f)) = let first : 48 ≡ 45 = ap (λ (t : List ℕ). get_or t 0 0) e in omega (arith, first)

same_ok : {A E : Type 0} (a b : A) (r : Result A E) → r ≡ Ok a → r ≡ Ok b → a ≡ b
same_ok a b r e f = cc

digits_one : (v w : ℕ) → v < 2 ^ 64 → w < 2 ^ 64 → hex_word_text v ≡ hex_word_text w → v ≡ w
digits_one v w h i e =
    let same : hex_text (big_bytes 8 v) ≡ hex_text (big_bytes 8 w) = ap (drop 2) e in
    let bytes : big_bytes 8 v ≡ big_bytes 8 w = same_ok (big_bytes 8 v) (big_bytes 8 w) (decode_sized (hex_text (big_bytes 8 v)) 8) (decoded (hex_text (big_bytes 8 v)) v refl) (decoded (hex_text (big_bytes 8 v)) w same) in
    sym (word_again (big_bytes 8 v) v h refl) ∙ word_again (big_bytes 8 v) w i bytes

pub value_one : (text : List ℕ) (v w : ℕ) → v < 2 ^ 64 → w < 2 ^ 64 → IsValue text v → IsValue text w → v ≡ w
value_one text v w h i (inl (y, a, b)) (inl (z, c, d)) = same_some v w (sym b ∙ ap word_of_int (integer_one text y z a c) ∙ d)
value_one text v w h i (inl (y, a, b)) (inr e) = absurd (no_prefix (hex_text (big_bytes 8 w)) y (subst (λ (t : List ℕ). IsInteger t y) e a))
value_one text v w h i (inr e) (inl (z, c, d)) = absurd (no_prefix (hex_text (big_bytes 8 v)) z (subst (λ (t : List ℕ). IsInteger t z) e c))
value_one text v w h i (inr e) (inr f) = digits_one v w h i (sym e ∙ f)

printed_by : (o : Option ℤ) (word : ℕ) → o ≡ int_of_word word → IsValue (number_or_digits o word) word
printed_by (Some m) word e =
    let has : word_of_int m ≡ Some word = word-from_int_of_word m word (sym e) in
    inl (m, integer_printed m (has_room m word has), has)
printed_by None word e = inr refl

pub value_printed : (word : ℕ) → word < 2 ^ 64 → IsValue (value_text word) word
unfolding value_text
value_printed word h = printed_by (int_of_word word) word refl

-- ---- labels

more_one : (ls ms : Labels) → more_text ls ≡ more_text ms → ls ≡ ms
more_one [] [] e = refl
more_one [] (m ∷ ms) e = absurd (no_comma (label_text m ++ more_text ms) [] (sym e))
more_one (l ∷ ls) [] e = absurd (no_comma (label_text l ++ more_text ls) [] e)
more_one (l ∷ ls) (m ∷ ms) e =
    let p = label_unique l m (more_text ls) (more_text ms) (tail_same (label_text l ++ more_text ls) (label_text m ++ more_text ms) 44 e) in
    ap₂ (λ (x : Label) (xs : Labels). x ∷ xs) p.0 (more_one ls ms p.1)

more_some : (ls : Labels) → 1 ≤ length (more_text ls)
more_some [] = omega arith
more_some (l ∷ ls) = omega arith

not_empty : (l : Label) (ls : Labels) → labels_text [] ≡ labels_text (l ∷ ls) → ⊥
not_empty (name, value) ls e =
    let inner : 125 ∷ [] ≡ label_text (name, value) ++ more_text ls = tail_same (125 ∷ []) (label_text (name, value) ++ more_text ls) 123 (sym labels_text-nil ∙ e ∙ labels_text-cons (name, value) ls) in
    let len : 1 ≡ length (label_text (name, value) ++ more_text ls) = ap length inner in
    omega (arith, len, length-append (label_text (name, value)) (more_text ls), label_some name value, more_some ls)

pub labels_one : (ls ms : Labels) → labels_text ls ≡ labels_text ms → ls ≡ ms
labels_one [] [] e = refl
labels_one [] (m ∷ ms) e = absurd (not_empty m ms e)
labels_one (l ∷ ls) [] e = absurd (not_empty l ls (sym e))
labels_one (l ∷ ls) (m ∷ ms) e =
    let p = label_unique l m (more_text ls) (more_text ms) (tail_same (label_text l ++ more_text ls) (label_text m ++ more_text ms) 123 (sym (labels_text-cons l ls) ∙ e ∙ labels_text-cons m ms)) in
    ap₂ (λ (x : Label) (xs : Labels). x ∷ xs) p.0 (more_one ls ms p.1)

-- ---- lines

series_one : (text : List ℕ) (r s : ℕ) (ls ms : Labels) → IsSeriesLine text r ls → IsSeriesLine text s ms → series r ls ≡ series s ms
series_one text r s ls ms h i =
    let p = series_parts text i.number (labels_text ms) r ls i.parts (number_without_space i.number s i.is_number) h in
    ap₂ series (number_one i.number r s p.0 i.is_number) (labels_one ls ms (sym p.1))

sample_one : (text : List ℕ) (r s : ℕ) (t u : ℤ) (v w : ℕ) → IsSampleLine text r t v → IsSampleLine text s u w → sample r t v ≡ sample s u w
sample_one text r s t u v w h i =
    let p = sample_parts text i.number (i.time ++ 32 ∷ i.value) r t v i.parts (number_without_space i.number s i.is_number) h in
    let q = time_parts i.number (i.time ++ 32 ∷ i.value) i.time i.value r t v refl (integer_without_space i.time u i.is_integer) p in
    let same_number : r ≡ s = number_one i.number r s p.is_number i.is_number in
    let same_time : t ≡ u = integer_one i.time t u q.0 i.is_integer in
    let same_word : v ≡ w = value_one i.value v w h.word_fits i.word_fits q.1 i.is_value in
    cc

pub line_one : (text : List ℕ) (l m : Line) → IsLine text l → IsLine text m → l ≡ m
line_one text (series r ls) (series s ms) h i =
    let same : h.says.0 ≡ i.says.0 = ap (drop 7) (sym h.says.1 ∙ i.says.1) in
    series_one i.says.0 r s ls ms (subst (λ (x : List ℕ). IsSeriesLine x r ls) same h.says.2) i.says.2
line_one text (series r ls) (sample s u w) h i = absurd (series_no_sample h.says.0 i.says.0 (sym h.says.1 ∙ i.says.1))
line_one text (series r ls) (raw b) h i = absurd (raw_no_series i.says.0 h.says.0 (sym i.says.1 ∙ h.says.1))
line_one text (sample r t v) (series s ms) h i = absurd (series_no_sample i.says.0 h.says.0 (sym i.says.1 ∙ h.says.1))
line_one text (sample r t v) (sample s u w) h i =
    let same : h.says.0 ≡ i.says.0 = ap (drop 7) (sym h.says.1 ∙ i.says.1) in
    sample_one i.says.0 r s t u v w (subst (λ (x : List ℕ). IsSampleLine x r t v) same h.says.2) i.says.2
line_one text (sample r t v) (raw b) h i = absurd (raw_no_sample i.says.0 h.says.0 (sym i.says.1 ∙ h.says.1))
line_one text (raw a) (series s ms) h i = absurd (raw_no_series h.says.0 i.says.0 (sym h.says.1 ∙ i.says.1))
line_one text (raw a) (sample s u w) h i = absurd (raw_no_sample h.says.0 i.says.0 (sym h.says.1 ∙ i.says.1))
line_one text (raw a) (raw b) h i =
    let same : h.says.0 ≡ i.says.0 = ap (drop 4) (sym h.says.1 ∙ i.says.1) in
    ap raw (same_some a b (sym h.says.2.digits ∙ ap read_digits same ∙ i.says.2.digits))
