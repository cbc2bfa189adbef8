use Rattle.std.proofs.Common.{◌≡◌, map, take}
use Rattle.rw_types.specs.Labels.{bytes_label}
use Rattle.rw_types.proofs.raw_labels.RawLabels.copy.Given as goal

abbrev pub invariant-loop-name : goal.invariant-loop-name
invariant-loop-name l = l.copy ≡ map bytes_label (take l.name-index l.items)
