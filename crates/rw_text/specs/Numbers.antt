-- Whole numbers in decimal digits.
use Rattle.std.specs.Prelude.{◌≡◌, ◌⊎◌, ℕ, ℤ, pos, neg_ℤ, List, ◌∷◌}
use Rattle.std.specs.Str.Parse.{IsNumeral, digits_value}

-- one digit or more, of which the first ones may be zeros
pub record IsNumber (text : List ℕ) (n : ℕ) : Type 0 where
  pub digits : IsNumeral 10 text
  pub value : digits_value 10 text ≡ n

-- digits, or a minus and digits
abbrev pub IsInteger : List ℕ → ℤ → Type 0
IsInteger text z =
    ((n : ℕ) × IsNumber text n × (z ≡ pos n))
    ⊎ ((n : ℕ) × (digits : List ℕ) × (text ≡ 45 ∷ digits) × IsNumber digits n × (z ≡ neg_ℤ (pos n)))
