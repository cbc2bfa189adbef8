-- Pairs of digits, as they come.
use Rattle.std.proofs.Common.{◌≡◌, ℕ, ◌+◌, ◌*◌, ◌<◌, ◌≤◌, List, [], ◌∷◌, ◌++◌, length, drop, get_or, true, false, refl, sym, ◌∙◌, ap, Option, Some, None, IfSome, is_some, append_assoc, add-one, drop-cons}
use Rattle.std.specs.Option.{option_map}
use Rattle.std.proofs.lemmas.List.{append-nil, drop_all}
use Rattle.rw_text.specs.HexText.{hex_digit_value, digit_values, bytes_of}

-- the value of a high digit whose low one has not come
abbrev pub waiting : Option ℕ → List ℕ
waiting None = []
waiting (Some high) = high ∷ []

-- bytes, and then those of further digits
abbrev pub then_bytes : List ℕ → List ℕ → Option (List ℕ)
then_bytes bytes digits = option_map (λ more. bytes ++ more) (bytes_of digits)

then_none : (o : Option (List ℕ)) → option_map (λ (more : List ℕ). [] ++ more) o ≡ o
then_none None = refl
then_none (Some x) = refl

-- at first
pub at_first : (text : List ℕ) → then_bytes [] (waiting None ++ digit_values (drop 0 text)) ≡ bytes_of (digit_values text)
at_first text = then_none (bytes_of (digit_values text))

values-digit : (text : List ℕ) (i v : ℕ) → i < length text → hex_digit_value (get_or text i 0) ≡ Some v → digit_values (drop i text) ≡ v ∷ digit_values (drop (i + 1) text)
values-digit text i v lt e = rw (add-one, drop-cons text i 0 lt, e) refl

pub values-other : (text : List ℕ) (i : ℕ) → i < length text → hex_digit_value (get_or text i 0) ≡ None → digit_values (drop i text) ≡ digit_values (drop (i + 1) text)
values-other text i lt e = rw (add-one, drop-cons text i 0 lt, e) refl

-- two digits are a byte
pair_taken : (bytes : List ℕ) (high low : ℕ) (rest : List ℕ) → then_bytes bytes (high ∷ low ∷ rest) ≡ then_bytes (bytes ++ (high * 16 + low) ∷ []) rest
unfolding bytes_of
pair_taken bytes high low rest = joined (bytes_of rest)
  where
    joined : (o : Option (List ℕ)) → option_map (λ more. bytes ++ more) (option_map (λ more. (high * 16 + low) ∷ more) o) ≡ option_map (λ more. (bytes ++ (high * 16 + low) ∷ []) ++ more) o
    joined None = refl
    joined (Some more) = ap Some (sym (append_assoc bytes ((high * 16 + low) ∷ []) more))

-- what the first characters of a text have given
pub record HasRead (text : List ℕ) (i : ℕ) (bytes : List ℕ) (high : Option ℕ) : Type 0 where
  pub read : then_bytes bytes (waiting high ++ digit_values (drop i text)) ≡ bytes_of (digit_values text)
  pub small : IfSome high (λ v. v < 16)

pub high_taken : (text : List ℕ) (i : ℕ) (bytes : List ℕ) (v : ℕ) → HasRead text i bytes None → i < length text → hex_digit_value (get_or text i 0) ≡ Some v → v < 16
    → HasRead text (i + 1) bytes (Some v)
high_taken text i bytes v h lt e small = record { read = ap (then_bytes bytes) (sym (values-digit text i v lt e)) ∙ h.read; small = small }

pub low_taken : (text : List ℕ) (i : ℕ) (bytes : List ℕ) (high v : ℕ) → HasRead text i bytes (Some high) → i < length text → hex_digit_value (get_or text i 0) ≡ Some v
    → HasRead text (i + 1) (bytes ++ (high * 16 + v) ∷ []) None
low_taken text i bytes high v h lt e = record {
  read = sym (pair_taken bytes high v (digit_values (drop (i + 1) text))) ∙ ap (λ ds. then_bytes bytes (high ∷ ds)) (sym (values-digit text i v lt e)) ∙ h.read;
  small = tt;
}

pub other_passed : (text : List ℕ) (i : ℕ) (bytes : List ℕ) (high : Option ℕ) → HasRead text i bytes high → i < length text → hex_digit_value (get_or text i 0) ≡ None
    → HasRead text (i + 1) bytes high
other_passed text i bytes high h lt e = record { read = ap (λ ds. then_bytes bytes (waiting high ++ ds)) (sym (values-other text i lt e)) ∙ h.read; small = h.small }

-- at the end
all_read : (text : List ℕ) (i : ℕ) (bytes : List ℕ) (high : Option ℕ) → HasRead text i bytes high → length text ≤ i → then_bytes bytes (waiting high) ≡ bytes_of (digit_values text)
all_read text i bytes high h le =
    ap (then_bytes bytes) (sym (append-nil (waiting high)) ∙ ap (λ t. waiting high ++ digit_values t) (sym (drop_all i text le))) ∙ h.read

pub none_left : (text : List ℕ) (i : ℕ) (bytes : List ℕ) (high : Option ℕ) → HasRead text i bytes high → length text ≤ i → is_some high ≡ false → Some bytes ≡ bytes_of (digit_values text)
unfolding bytes_of
none_left text i bytes None h le e = ap Some (sym (append-nil bytes)) ∙ all_read text i bytes None h le
none_left text i bytes (Some v) h le e = absurd cc

pub one_left : (text : List ℕ) (i : ℕ) (bytes : List ℕ) (high : Option ℕ) → HasRead text i bytes high → length text ≤ i → is_some high ≡ true → None ≡ bytes_of (digit_values text)
unfolding bytes_of
one_left text i bytes None h le e = absurd cc
one_left text i bytes (Some v) h le e = all_read text i bytes (Some v) h le
