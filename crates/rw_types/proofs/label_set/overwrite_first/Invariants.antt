use Rattle.std.proofs.Common.{◌≡◌, map, take, length}
use Rattle.rw_types.specs.Labels.{text_label}
use Rattle.rw_types.proofs.label_set.overwrite_first.Given as goal

abbrev pub invariant-loop-i : goal.invariant-loop-i
invariant-loop-i l = record {
  len : length l.labels.items ≡ length l.initial.labels.items;
  same : map text_label (take l.i l.labels.items) ≡ map text_label (take l.i l.new);
}
