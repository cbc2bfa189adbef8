use Rattle.std.proofs.Common.{◌≡◌, ◌++◌, map, take}
use Rattle.rw_types.specs.Labels.{text_label}
use Rattle.rw_types.proofs.label_set.append_copies.Given as goal

abbrev pub invariant-loop-label : goal.invariant-loop-label
invariant-loop-label l = map text_label l.labels.items ≡ map text_label l.initial.labels.items ++ map text_label (take l.label-index l.new)
