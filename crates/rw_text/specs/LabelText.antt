-- Labels as text: `{name="value",..}`.
use Rattle.std.specs.Prelude.{ℕ, List, [], ◌∷◌, ◌++◌, map, flat_map, ◌==◌, if◌then◌else◌, Bool, not, ◌&&◌}
use Rattle.std.specs.List.{join_with_byte}
use Rattle.rw_types.specs.Labels.{Label, Labels, is_metric_name}

-- a byte in quotes: backslash, quote and newline are written `\\`, `\"` and `\n`
abbrev pub escaped : ℕ → List ℕ
escaped b =
    if b == 92 then 92 ∷ 92 ∷ []
    else if b == 34 then 92 ∷ 34 ∷ []
    else if b == 10 then 92 ∷ 110 ∷ []
    else b ∷ []

-- whether a byte in quotes is written as it is
abbrev pub is_plain : ℕ → Bool
is_plain b = not (b == 92) && not (b == 34) && not (b == 10)

-- a text in quotes
unfoldable pub quoted : List ℕ → List ℕ
quoted text = 34 ∷ flat_map escaped text ++ 34 ∷ []

-- the name of a label: bare if it is `[a-zA-Z_:][a-zA-Z0-9_:]*`, and otherwise in quotes
unfoldable pub name_text : List ℕ → List ℕ
name_text name = if is_metric_name name then name else quoted name

-- `name="value"`
abbrev pub label_text : Label → List ℕ
label_text l = name_text l.0 ++ 61 ∷ quoted l.1

-- labels in braces, with commas between them
unfoldable pub labels_text : Labels → List ℕ
labels_text ls = 123 ∷ join_with_byte 44 (map label_text ls) ++ 125 ∷ []
