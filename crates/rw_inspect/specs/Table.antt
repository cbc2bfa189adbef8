-- How a report is printed as a table: the texts of the code's tables, with what is counted.
use Rattle.std.specs.Prelude.{ℕ, ◌-◌, List, [], ◌∷◌, ◌++◌, length, take, map, flat_map, fold, max, codes, string_bytes}
use Rattle.std.specs.List.{zip}
use Rattle.rw_log_read.specs.declared.log_read.Segment.{Segment}
use Rattle.rw_log_read.specs.declared.sums.Sums.{Sums}
use Rattle.rw_inspect.specs.Cells.{Text, texts, cell_text, fields_text, found_cells, number_text}
use Rattle.rw_inspect.specs.Faults.{damage_text, shape}
use Rattle.rw_inspect.specs.Sizes.{sizes_of, sizes_in}
use Rattle.rw_inspect.specs.declared.cells.Cell.{Cell}
use Rattle.rw_inspect.specs.declared.cells.Cell.TheVariants as cell
use Rattle.rw_inspect.specs.declared.counts.Counts.{Counts}
use Rattle.rw_inspect.specs.declared.faults.TheConstants.{LINES}
use Rattle.rw_inspect.specs.declared.report.LogFindings.{LogFindings}
use Rattle.rw_inspect.specs.declared.sizes.Sizes.{Sizes}
use Rattle.rw_inspect.specs.declared.table.TheConstants.{NAME, COLUMNS, FOUND, FIRST, SPACES}

-- a column: its title, and its width
abbrev pub Column : Type 0
Column = List ℕ × ℕ

abbrev pub column : Text × ℕ → Column
column c = (c.0.now, c.1)

-- at the right end of a column: a text, the title, and each number
unfoldable pub right_text : (width : ℕ) → List ℕ → List ℕ
right_text width text = take (width - length text) SPACES.now ++ text

abbrev pub title_text : Column → List ℕ
title_text c = right_text c.1 c.0

abbrev pub column_text : Column × Cell → List ℕ
column_text row = right_text row.0.1 (cell_text (codes "-") row.1)

abbrev pub columns_text : List Column → List Cell → List ℕ
columns_text columns cells = flat_map column_text (zip columns cells)

-- the width of the column of names: as that of its title, or of the longest name if it is longer
abbrev pub widened : ℕ → Segment → ℕ
widened width s = max width (length (string_bytes s.name))

abbrev pub name_width : List Segment → ℕ
name_width segments = fold widened NAME.1 segments

-- a row
abbrev pub row_cells : Sizes → Sums → List Cell
row_cells t s =
    cell.Count t.bytes ∷ cell.Count t.pages ∷ cell.Count s.entries ∷ cell.Count s.series
    ∷ cell.Count s.samples ∷ cell.Count t.passed ∷ cell.Time s.earliest ∷ cell.Time s.latest ∷ []

unfoldable pub row_text : (width : ℕ) (name : List ℕ) → Sizes → Sums → List ℕ
row_text width name t s = right_text width name ++ columns_text (map column COLUMNS) (row_cells t s) ++ codes "\n"

abbrev pub line_text : (width : ℕ) → Segment → List ℕ
line_text width s = row_text width (string_bytes s.name) (sizes_of s) s.sums

-- what was found in the whole log, with the first positions of samples that do not rise
unfoldable pub found_text : Counts → (first : List ℕ) → List ℕ
found_text c first =
    fields_text (texts FOUND) (found_cells c) ++ FIRST.now ++ flat_map (number_text (codes " ")) first ++ codes "\n"

unfoldable pub head_text : (width : ℕ) → List ℕ
head_text width = right_text width NAME.0.now ++ flat_map title_text (map column COLUMNS) ++ codes "\n"

-- the rows of all segments, and of the log
abbrev pub rows_text : (width : ℕ) → LogFindings → List ℕ
rows_text width r =
    head_text width ++ flat_map (line_text width) r.segments.items
    ++ row_text width (codes "all") (sizes_in r.segments.items) r.counts.sums

-- a report
unfoldable pub report_text : LogFindings → List ℕ
report_text r =
    rows_text (name_width r.segments.items) r
    ++ found_text r.counts r.first_not_rising.items ++ damage_text (shape LINES) r.may_compress r.segments.items r.damage
