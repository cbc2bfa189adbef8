use Rattle.std.proofs.Common.{◌≡◌, ◌++◌, take}
use Rattle.rw_kept_log.specs.inner.References.{with_reference}
use Rattle.rw_kept_log.proofs.references.put_points.Given as goal

abbrev pub invariant-loop-point : goal.invariant-loop-point
invariant-loop-point l = l.samples.items ≡ l.initial.samples.items ++ with_reference l.reference (take l.point-index l.new)
