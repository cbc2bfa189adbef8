use Rattle.std.proofs.Common.{◌≡◌, ◌++◌}
use Rattle.rw_inspect.specs.Table.{column_text}
use Rattle.rw_inspect.specs.inner.Table.{column_of}
use Rattle.rw_inspect.proofs.RowLemmas.{rows_from}
use Rattle.rw_inspect.proofs.table.push_columns.Given as goal

abbrev pub invariant-loop-i : goal.invariant-loop-i
invariant-loop-i l =
    l.out.items ++ rows_from column_of column_text l.columns l.cells l.i
    ≡ l.initial.out.items ++ rows_from column_of column_text l.columns l.cells 0
