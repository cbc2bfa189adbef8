-- Texts that are made of one part for each item of a list.
use Rattle.std.specs.Prelude.{◌≡◌, ℕ, List, [], ◌∷◌, ◌++◌}

-- one part for each item, in order, and nothing else
abbrev pub AreParts : {A : Type 0} → (A → List ℕ → Type 0) → List A → List ℕ → Type 0
AreParts IsPart [] text = text ≡ []
AreParts IsPart (x ∷ xs) text = (part : List ℕ) × (rest : List ℕ) × (text ≡ part ++ rest) × IsPart x part × AreParts IsPart xs rest
