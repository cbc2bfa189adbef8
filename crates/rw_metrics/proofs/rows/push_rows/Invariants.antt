use Rattle.std.proofs.Common.{◌≡◌, ◌++◌}
use Rattle.rw_metrics.specs.Rows.{row_text}
use Rattle.rw_metrics.specs.inner.Rows.{shape_of, text_of}
use Rattle.rw_metrics.proofs.RowLemmas.{rows_from}
use Rattle.rw_metrics.proofs.rows.push_rows.Given as goal

abbrev pub invariant-loop-i : goal.invariant-loop-i
invariant-loop-i l =
    l.out.items ++ rows_from text_of (λ row. row_text (shape_of l.form) row.0 row.1) l.labels l.numbers l.i
    ≡ l.initial.out.items ++ rows_from text_of (λ row. row_text (shape_of l.form) row.0 row.1) l.labels l.numbers 0
