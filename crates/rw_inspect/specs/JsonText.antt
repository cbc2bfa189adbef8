-- A JSON string (RFC 8259).
use Rattle.std.specs.Prelude.{ℕ, ◌+◌, ◌/◌, ◌%◌, List, [], ◌∷◌, ◌++◌, flat_map, codes, nat_lt, ◌==◌, if◌then◌else◌}

abbrev pub digit : ℕ → ℕ
digit n = if nat_lt n 10 then 48 + n else 87 + n

abbrev pub json_escaped : ℕ → List ℕ
json_escaped b =
    if b == 34 then 92 ∷ 34 ∷ []
    else if b == 92 then 92 ∷ 92 ∷ []
    else if nat_lt b 32 then codes "\\u00" ++ digit (b / 16) ∷ digit (b % 16) ∷ []
    else b ∷ []

unfoldable pub json_quoted : List ℕ → List ℕ
json_quoted text = 34 ∷ flat_map json_escaped text ++ 34 ∷ []
