-- Fields that are added, and lines that are split.
use Rattle.std.proofs.Common.{◌≡◌, ◌+◌, ◌≤◌, ◌-◌, ℕ, List, [], ◌∷◌, ◌++◌, length, take, map, Bool, true, false, not, ◌&&◌, ◌==◌, nat_lt, nat_le, refl, ap, sym, ◌∙◌, arith, length-append, if◌then◌else◌}
use Rattle.std.proofs.Math.Seq.{take-append_seam}
use Rattle.std.proofs.lemmas.Bool.{and_parts, ltb-true, leb-true}
use Rattle.std.proofs.lemmas.Grind.{flat_map-append}
use Rattle.std.proofs.lemmas.List.Folds.{list_all-append}
use Rattle.std.proofs.lemmas.List.{map-append, append-nil}
use Rattle.std.specs.List.{list_all}
use Rattle.rw_fields.specs.Fields.{NameValue, is_extra, field_line, field_lines, has_name, can_add, AreExtra, first_line, after_first_line}
use Rattle.rw_fields.specs.declared.extra_fields.Field.{Field}
use Rattle.rw_fields.specs.inner.Fields.{name_and_value}

lines-push : (fields : List NameValue) (f : NameValue) → field_lines (fields ++ f ∷ []) ≡ field_lines fields ++ field_line f
lines-push fields f = flat_map-append field_line fields (f ∷ []) ∙ ap (λ (l : List ℕ). field_lines fields ++ l) (append-nil (field_line f))

pub extra-push : (fields : List NameValue) (f : NameValue) → can_add fields f ≡ true → AreExtra fields → AreExtra (fields ++ f ∷ [])
unfolding can_add
extra-push fields f h extra =
    let a = and_parts (is_extra f && not (has_name f.0 fields) && nat_lt (length fields) 32) (nat_le (length (field_lines fields) + length (field_line f)) 6000) h in
    let b = and_parts (is_extra f && not (has_name f.0 fields)) (nat_lt (length fields) 32) a.0 in
    let c = and_parts (is_extra f) (not (has_name f.0 fields)) b.0 in
    let few = ltb-true (length fields) 32 b.1 in
    let more = length-append fields (f ∷ []) in
    let short = leb-true (length (field_lines fields) + length (field_line f)) 6000 a.1 in
    let lines = ap length (lines-push fields f) ∙ length-append (field_lines fields) (field_line f) in
    record {
      each = list_all-append is_extra fields (f ∷ []) ∙ rw (extra.each, c.0) refl;
      few = omega (arith, few, more);
      short = omega (arith, short, lines);
    }

stored_as : (xs : List Field) (x : Field) (f : NameValue) (lines : List ℕ) → name_and_value x ≡ f → can_add (map name_and_value xs) f ≡ true
    → AreExtra (map name_and_value xs) → lines ≡ field_lines (map name_and_value xs)
    → AreExtra (map name_and_value (xs ++ x ∷ [])) × (lines ++ field_line f ≡ field_lines (map name_and_value (xs ++ x ∷ [])))
stored_as xs x f lines this h extra is =
    let whole : map name_and_value (xs ++ x ∷ []) ≡ map name_and_value xs ++ f ∷ [] = map-append name_and_value xs (x ∷ []) ∙ ap (λ (g : NameValue). map name_and_value xs ++ g ∷ []) this in
    rw whole (
      extra-push (map name_and_value xs) f h extra,
      ap (λ (l : List ℕ). l ++ field_line f) is ∙ sym (lines-push (map name_and_value xs) f),
    )

pub stored : (xs ys : List Field) (x : Field) (f : NameValue) (lines more : List ℕ) → ys ≡ xs ++ x ∷ [] → name_and_value x ≡ f → can_add (map name_and_value xs) f ≡ true
    → AreExtra (map name_and_value xs) → lines ≡ field_lines (map name_and_value xs) → more ≡ lines ++ field_line f
    → AreExtra (map name_and_value ys) × (more ≡ field_lines (map name_and_value ys))
stored xs ys x f lines more are this h extra is whole = rw (are, whole) (stored_as xs x f lines this h extra is)

split_at : (b : ℕ) (text : List ℕ) (t : Bool) → first_line text ++ after_first_line text ≡ text →
    (b ∷ (if t then [] else first_line text)) ++ (if t then text else after_first_line text) ≡ b ∷ text
split_at b text true whole = refl
split_at b text false whole = ap (λ (l : List ℕ). b ∷ l) whole

-- a text is its first line and what comes after it
pub split : (text : List ℕ) → first_line text ++ after_first_line text ≡ text
unfolding first_line after_first_line
split [] = refl
split (b ∷ text) = split_at b text (b == 10) (split text)

split_length : (text : List ℕ) → length (first_line text) + length (after_first_line text) ≡ length text
split_length text = sym (length-append (first_line text) (after_first_line text)) ∙ ap length (split text)

pub not_longer : (text : List ℕ) → length (after_first_line text) ≤ length text
not_longer text = let lengths = split_length text in omega (arith, lengths)

pub first_line_is : (text : List ℕ) → take (length text - length (after_first_line text)) text ≡ first_line text
first_line_is text =
    let lengths = split_length text in
    let at : length text - length (after_first_line text) ≡ length (first_line text) = omega (arith, lengths) in
    rw at (ap (take (length (first_line text))) (sym (split text)) ∙ take-append_seam (first_line text) (after_first_line text))
