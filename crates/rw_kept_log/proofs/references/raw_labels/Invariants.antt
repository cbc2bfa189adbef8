use Rattle.std.proofs.Common.{◌≡◌, map, take}
use Rattle.rw_types.specs.Labels.{text_label}
use Rattle.rw_kept_log.proofs.references.raw_labels.Given as goal

abbrev pub invariant-loop-label : goal.invariant-loop-label
invariant-loop-label l = l.raw ≡ map text_label (take l.label-index l.items)
