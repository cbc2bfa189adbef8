use Rattle.std.proofs.Common.{◌≡◌, map, take}
use Rattle.rw_types.specs.Labels.{text_label}
use Rattle.rw_kept_head.proofs.restoring.copy_of.Given as goal

abbrev pub invariant-loop-name : goal.invariant-loop-name
invariant-loop-name l = map text_label l.copy.items ≡ map text_label (take l.name-index l.labels)
