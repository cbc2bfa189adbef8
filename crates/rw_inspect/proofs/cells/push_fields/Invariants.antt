use Rattle.std.proofs.Common.{◌≡◌, ◌++◌}
use Rattle.rw_inspect.specs.Cells.{field_text}
use Rattle.rw_inspect.specs.inner.Cells.{text_of}
use Rattle.rw_inspect.proofs.RowLemmas.{rows_from}
use Rattle.rw_inspect.proofs.cells.push_fields.Given as goal

abbrev pub invariant-loop-i : goal.invariant-loop-i
invariant-loop-i l =
    l.out.items ++ rows_from text_of (λ row. field_text row.0 row.1) l.names l.cells l.i
    ≡ l.initial.out.items ++ rows_from text_of (λ row. field_text row.0 row.1) l.names l.cells 0
