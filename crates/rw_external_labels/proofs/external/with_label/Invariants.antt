use Rattle.std.proofs.Common.{◌≡◌, ◌++◌, map, length}
use Rattle.rw_types.specs.Labels.{bytes_label}
use Rattle.rw_external_labels.specs.External.{with_label}
use Rattle.rw_external_labels.proofs.external.with_label.Given as goal

abbrev pub invariant-loop-next : goal.invariant-loop-next
invariant-loop-next l = with_label l.labels (l.name, l.value) ≡ l.longer ++ with_label (map bytes_label l.rest) (l.name, l.value)

abbrev pub decreases-loop-next : goal.decreases-loop-next
decreases-loop-next l = length l.rest
