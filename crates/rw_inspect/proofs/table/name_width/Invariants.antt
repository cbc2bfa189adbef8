use Rattle.std.proofs.Common.{◌≡◌, take}
use Rattle.rw_inspect.specs.Table.{name_width}
use Rattle.rw_inspect.proofs.table.name_width.Given as goal

abbrev pub invariant-loop-segment : goal.invariant-loop-segment
invariant-loop-segment l = l.width ≡ name_width (take l.segment-index l.segments)
