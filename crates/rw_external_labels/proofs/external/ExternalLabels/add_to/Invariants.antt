use Rattle.std.proofs.Common.{◌≡◌, map, take}
use Rattle.rw_types.specs.Labels.{text_label}
use Rattle.rw_external_labels.specs.External.{with_labels}
use Rattle.rw_external_labels.proofs.external.ExternalLabels.add_to.Given as goal

abbrev pub invariant-loop-name : goal.invariant-loop-name
invariant-loop-name l = l.labels ≡ with_labels (map text_label (take l.name-index l.name-items)) l.initial.labels
