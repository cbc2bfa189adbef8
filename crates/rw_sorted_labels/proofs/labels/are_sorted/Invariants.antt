use Rattle.std.proofs.Common.{◌≡◌, ◌<◌, false}
use Rattle.std.specs.List.{AllAdjacentBelow}
use Rattle.std.specs.Ordering.{is_lt}
use Rattle.rw_types.specs.LabelOrder.{label_cmp}
use Rattle.rw_types.specs.Labels.{text_label}
use Rattle.rw_sorted_labels.proofs.labels.are_sorted.Given as goal

abbrev pub invariant-loop-i : goal.invariant-loop-i
invariant-loop-i l = record {
  some : 0 < l.i;
  up : AllAdjacentBelow (λ x y. is_lt (label_cmp (text_label y) (text_label x)) ≡ false) l.labels l.i;
}
