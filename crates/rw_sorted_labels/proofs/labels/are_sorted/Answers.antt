use Rattle.std.proofs.Common.{arith}
use Rattle.std.specs.Ordering.{is_lt}
use Rattle.rw_types.specs.Labels.{text_label}
use Rattle.rw_types.specs.LabelOrder.{label_cmp}
use Rattle.rw_sorted_labels.proofs.OrderLemmas.{sorted_to_end}
use Rattle.rw_sorted_labels.proofs.labels.are_sorted.Goals as goal

pub returns : goal.returns
returns c = λ _.
    sorted_to_end text_label (λ l m. is_lt (label_cmp l m)) c.args.labels.now c.loop-i.i (omega (arith, c.loop-i-test.false)) c.loop-i.invariant.up
