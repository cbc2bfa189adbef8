use Rattle.std.proofs.Common.{◌≡◌, map, take}
use Rattle.rw_types.specs.Labels.{bytes_label, text_label}
use Rattle.rw_types.proofs.label_set.texts_of.Given as goal

abbrev pub invariant-loop-label : goal.invariant-loop-label
invariant-loop-label l = map text_label l.texts.items ≡ map bytes_label (take l.label-index l.labels)
