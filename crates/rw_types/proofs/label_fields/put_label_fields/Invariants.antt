use Rattle.std.proofs.Common.{◌≡◌, ◌≤◌, ◌++◌, take, map}
use Rattle.std.specs.Vec.{vec_capacity}
use Rattle.rw_types.specs.Labels.{text_label}
use Rattle.rw_types.specs.LabelFields.{label_fields}
use Rattle.rw_types.proofs.label_fields.put_label_fields.Given as goal

abbrev pub invariant-loop-name : goal.invariant-loop-name
invariant-loop-name l = record {
  items : l.out.items ≡ l.fn.out.items ++ label_fields (map text_label (take l.name-index l.labels));
  capacity : vec_capacity l.fn.out ≤ vec_capacity l.out;
}
