use Rattle.std.proofs.Common.{◌≡◌, ◌++◌, take, flat_map, map}
use Rattle.rw_inspect.specs.Table.{title_text}
use Rattle.rw_inspect.specs.inner.Table.{column_of}
use Rattle.rw_inspect.proofs.table.push_titles.Given as goal

abbrev pub invariant-loop-column : goal.invariant-loop-column
invariant-loop-column l = l.out.items ≡ l.fn.out.items ++ flat_map title_text (map column_of (take l.column-index l.columns))
