-- What is left of what was opened.
use Rattle.std.specs.Prelude.{ℕ, List, Option, None, Some}

-- what an opened source has left, and the whole text before it was opened
abbrev pub left_of : {S : Type 0} → Option (List ℕ) → (S → Option (List ℕ)) → Option S → Option (List ℕ)
left_of text remaining None = text
left_of text remaining (Some s) = remaining s
