-- Log text whose values may be decimals, and the same text without decimals.
use Rattle.std.specs.Prelude.{◌≡◌, ◌⊎◌, ℕ, List, [], ◌∷◌, ◌++◌, ◌==◌, false, All, codes}
use Rattle.rw_text.specs.RecordLines.{lines}
use Rattle.rw_decimal.specs.Decimals.{exact_value}
use Rattle.rw_decimal.specs.Parts.{AreParts}

-- `sample REF T VALUE`, whatever its parts are, with what is before the value
pub record IsSampleOf (line front value : List ℕ) : Type 0 where
  pub number : List ℕ
  pub time : List ℕ
  pub number_bare : All (λ b. (b == 32) ≡ false) number
  pub time_bare : All (λ b. (b == 32) ≡ false) time
  pub before : front ≡ codes "sample " ++ number ++ 32 ∷ (time ++ 32 ∷ [])
  pub parts : line ≡ front ++ value

-- a line without decimals, and its LF: the value of a sample is that of its word, and any other
-- line is as it was
abbrev pub IsExactLine : List ℕ → List ℕ → Type 0
IsExactLine line exact =
    ((front : List ℕ) × (value : List ℕ) × IsSampleOf line front value × (exact ≡ front ++ exact_value value ++ 10 ∷ []))
    ⊎ ((exact ≡ line ++ 10 ∷ []) × ((front value : List ℕ) → IsSampleOf line front value → ⊥))

-- the lines of a text without decimals, each ended by LF
abbrev pub IsExactText : List ℕ → List ℕ → Type 0
IsExactText text exact = AreParts IsExactLine (lines text) exact
