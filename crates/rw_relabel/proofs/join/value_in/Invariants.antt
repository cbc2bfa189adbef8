use Rattle.std.proofs.Common.{◌≡◌, map, drop}
use Rattle.rw_types.specs.Labels.{text_label}
use Rattle.rw_relabel.specs.Rules.{value_of}
use Rattle.rw_relabel.proofs.join.value_in.Given as goal

abbrev pub invariant-loop-label : goal.invariant-loop-label
invariant-loop-label l =
    value_of (map text_label l.labels) l.name ≡ value_of (map text_label (drop l.label-index l.labels)) l.name
