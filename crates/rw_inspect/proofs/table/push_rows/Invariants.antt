use Rattle.std.proofs.Common.{◌≡◌, ◌++◌, take, flat_map}
use Rattle.rw_inspect.specs.Table.{line_text}
use Rattle.rw_inspect.proofs.table.push_rows.Given as goal

abbrev pub invariant-loop-segment : goal.invariant-loop-segment
invariant-loop-segment l = l.out.items ≡ l.fn.out.items ++ flat_map (line_text l.width) (take l.segment-index l.segments)
