use Rattle.std.proofs.Common.{◌≡◌, ◌++◌, map}
use Rattle.rw_kept_log.specs.References.{undefined}
use Rattle.rw_kept_log.specs.inner.References.{pair_of}
use Rattle.rw_kept_log.proofs.references.References.undefined.Given as goal

abbrev pub invariant-loop-labels : goal.invariant-loop-labels
invariant-loop-labels l = l.definitions.items ++ map pair_of l.labels-iterator ≡ undefined l.self
