use Rattle.std.proofs.Common.{take}
use Rattle.rw_decimal.specs.DecimalStore.{IsPointText}
use Rattle.rw_decimal.proofs.PartLemmas.{Wrote}
use Rattle.rw_decimal.proofs.held.push_points.Given as goal

abbrev pub invariant-loop-point : goal.invariant-loop-point
invariant-loop-point l = Wrote IsPointText (take l.point-index l.points) l.fn.out.items l.out.items
