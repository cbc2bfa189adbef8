-- The numbers of a report, and fields of them.
use Rattle.std.specs.Prelude.{ℕ, List, [], ◌∷◌, ◌++◌, map, flat_map, codes, decimal, None, Some}
use Rattle.std.specs.Fmt.{signed_decimal}
use Rattle.std.specs.List.{zip}
use Rattle.rw_inspect.specs.declared.cells.Cell.{Cell}
use Rattle.rw_inspect.specs.declared.cells.Cell.TheVariants as cell
use Rattle.rw_inspect.specs.declared.counts.Counts.{Counts}

-- a text of a table of the code
abbrev pub Text : Type 0
Text = record { now : List ℕ }

abbrev pub texts : List Text → List (List ℕ)
texts ts = map (λ t. t.now) ts

-- a number, or the text for an absent timestamp
abbrev pub cell_text : (none : List ℕ) → Cell → List ℕ
cell_text none (cell.Count n) = decimal n
cell_text none (cell.Time None) = none
cell_text none (cell.Time (Some t)) = signed_decimal t

-- a number after its name, and each number after its name
unfoldable pub field_text : (name : List ℕ) → Cell → List ℕ
field_text name number = name ++ cell_text (codes "null") number

abbrev pub fields_text : (names : List (List ℕ)) → List Cell → List ℕ
fields_text names cells = flat_map (λ row. field_text row.0 row.1) (zip names cells)

-- what was found in a whole log
abbrev pub found_cells : Counts → List Cell
found_cells c =
    cell.Count c.label_sets ∷ cell.Count c.without_series ∷ cell.Count c.bad_labels
    ∷ cell.Count c.not_rising ∷ []

-- a number after a text
unfoldable pub number_text : (before : List ℕ) → ℕ → List ℕ
number_text before n = before ++ decimal n
