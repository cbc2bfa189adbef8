-- The keys by which label sets are found: bytes in the same byte order as the label sets.
use Rattle.std.specs.Prelude.{ℕ, suc, ◌+◌, ◌^◌, ◌%◌, List, [], ◌∷◌, ◌++◌, map}
use Rattle.std.specs.List.{flat_map}
use Rattle.rw_types.specs.Labels.{Label, Labels}

-- a text with each byte raised by one, and after it a 0, which is below them all
abbrev pub text_key : List ℕ → List ℕ
text_key text = map (λ b. suc b) text ++ 0 ∷ []

-- the name, and then the value
abbrev pub label_key : Label → List ℕ
label_key l = text_key l.0 ++ text_key l.1

abbrev pub labels_key : Labels → List ℕ
labels_key ls = flat_map label_key ls

-- a byte raised by one, and 255, which no text has, to 0
abbrev pub raised_byte : ℕ → ℕ
raised_byte b = (b + 1) % 2 ^ 8
