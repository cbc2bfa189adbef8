use Rattle.std.specs.Ordering.{is_lt}
use Rattle.std.proofs.lemmas.List.Sorted.{IsPermutation-map}
use Rattle.rw_types.specs.Labels.{text_label}
use Rattle.rw_types.specs.LabelOrder.{label_cmp}
use Rattle.rw_sorted_labels.proofs.OrderLemmas.{sorted_map}
use Rattle.rw_sorted_labels.proofs.labels.sort.Goals as goal

pub returns : goal.returns
returns c = record {
  same = IsPermutation-map text_label c.args.labels.now c.sort_unstable.new.self c.sort_unstable.ensures.permutation;
  sorted = sorted_map text_label (λ l m. is_lt (label_cmp l m)) c.sort_unstable.new.self c.sort_unstable.ensures.sorted;
}
