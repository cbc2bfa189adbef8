-- How a report is printed as JSON, one object a line: the texts of the code's tables, with what is
-- counted.
use Rattle.std.specs.Prelude.{ℕ, List, [], ◌∷◌, ◌++◌, flat_map, codes, decimal, string_bytes}
use Rattle.rw_log_read.specs.declared.log_read.Segment.{Segment}
use Rattle.rw_log_read.specs.declared.sums.Sums.{Sums}
use Rattle.rw_inspect.specs.Cells.{texts, fields_text, found_cells, number_text}
use Rattle.rw_inspect.specs.Faults.{damage_text, shape}
use Rattle.rw_inspect.specs.JsonText.{json_quoted}
use Rattle.rw_inspect.specs.Sizes.{sizes_of, sizes_in}
use Rattle.rw_inspect.specs.declared.cells.Cell.{Cell}
use Rattle.rw_inspect.specs.declared.cells.Cell.TheVariants as cell
use Rattle.rw_inspect.specs.declared.counts.Counts.{Counts}
use Rattle.rw_inspect.specs.declared.json.TheConstants.{SEGMENT, TOTALS, MEASURES, FOUND, FIRST, FAULT}
use Rattle.rw_inspect.specs.declared.report.LogFindings.{LogFindings}
use Rattle.rw_inspect.specs.declared.sizes.Sizes.{Sizes}

-- what is counted of a segment, or of all
abbrev pub measures : Sizes → Sums → List Cell
measures t s =
    cell.Count t.bytes ∷ cell.Count t.pages ∷ cell.Count t.passed ∷ cell.Count s.entries
    ∷ cell.Count s.series ∷ cell.Count s.samples ∷ cell.Time s.earliest ∷ cell.Time s.latest ∷ []

abbrev pub measures_json : Sizes → Sums → List ℕ
measures_json t s = fields_text (texts MEASURES) (measures t s)

unfoldable pub segment_json : (name : List ℕ) → Sizes → Sums → List ℕ
segment_json name t s = SEGMENT.now ++ json_quoted name ++ measures_json t s ++ codes "}\n"

abbrev pub line_json : Segment → List ℕ
line_json s = segment_json (string_bytes s.name) (sizes_of s) s.sums

-- the items of an array of numbers
abbrev pub listed : List ℕ → List ℕ
listed [] = []
listed (n ∷ ns) = decimal n ++ flat_map (number_text (codes ",")) ns

-- what was found in the whole log, with the first positions of samples that do not rise
unfoldable pub found_json : Counts → (first : List ℕ) → List ℕ
found_json c first = fields_text (texts FOUND) (found_cells c) ++ FIRST.now ++ listed first ++ codes "]}\n"

unfoldable pub totals_json : Sizes → Counts → (first : List ℕ) → List ℕ
totals_json t c first = TOTALS.now ++ measures_json t c.sums ++ found_json c first

-- a report
unfoldable pub report_json : LogFindings → List ℕ
report_json r =
    flat_map line_json r.segments.items ++ totals_json (sizes_in r.segments.items) r.counts r.first_not_rising.items
    ++ damage_text (shape FAULT) r.may_compress r.segments.items r.damage
