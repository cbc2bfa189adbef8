-- Inner definitions beside those of Rows.antt: only invariants, private functions and proofs use
-- them.
use Rattle.std.specs.Prelude.{ℕ, List, ◌++◌, map}
use Rattle.std.specs.Borrow.{Bor}
use Rattle.rw_metrics.specs.Rows.{Shape, Table}
use Rattle.rw_metrics.specs.declared.rows.Form.{Form}

abbrev pub text_of : Bor (List ℕ) → List ℕ
text_of text = text.now

abbrev pub shape_of : Form → Shape
shape_of form = record {
  start = form.metric.now ++ form.start.now;
  between = form.between.now;
  end = form.end.now;
  zeros = form.zeros;
}

abbrev pub table_of : Bor (List ℕ) × Bor (List (Bor (List ℕ))) × Bor (List ℕ) → Table
table_of table = (table.0.now, map text_of table.1.now, table.2.now)
