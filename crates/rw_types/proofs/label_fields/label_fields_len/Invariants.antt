use Rattle.std.proofs.Common.{◌≡◌, length, take, map}
use Rattle.rw_types.specs.Labels.{text_label}
use Rattle.rw_types.specs.LabelFields.{label_fields}
use Rattle.rw_types.proofs.label_fields.label_fields_len.Given as goal

abbrev pub invariant-loop-name : goal.invariant-loop-name
invariant-loop-name l = l.total ≡ length (label_fields (map text_label (take l.name-index l.labels)))
