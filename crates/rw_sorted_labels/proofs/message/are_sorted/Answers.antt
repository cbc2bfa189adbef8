use Rattle.std.proofs.Common.{map, subst}
use Rattle.std.specs.List.Sorted.{IsSorted}
use Rattle.rw_types.specs.Labels.{text_label}
use Rattle.rw_types.specs.LabelOrder.{label_cmp}
use Rattle.rw_write_request.specs.Message.{TimeSeries}
use Rattle.rw_sorted_labels.proofs.MessageLemmas.{sorted_more}
use Rattle.rw_sorted_labels.proofs.message.are_sorted.Goals as goal

pub loop-series-preserved : goal.loop-series-preserved
loop-series-preserved c =
    let up = c.are_sorted.ensures c.if-not-are_sorted.false in
    let inside = subst (λ ls. IsSorted label_cmp (map text_label ls)) c.deref.ensures.value up in
    sorted_more c.args.message.now c.loop-series.series-index c.series-item.result c.loop-series-test.true c.series-item.is c.loop-series.invariant
    (subst (λ (s : TimeSeries). IsSorted label_cmp s.labels) c.series.view_is inside)
