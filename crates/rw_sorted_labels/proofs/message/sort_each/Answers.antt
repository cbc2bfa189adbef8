use Rattle.std.proofs.Common.{subst, sym}
use Rattle.rw_sorted_labels.specs.Sorting.{SortsSeries}
use Rattle.rw_sorted_labels.proofs.MessageLemmas.{sorted_on}
use Rattle.rw_sorted_labels.proofs.message.sort_each.Goals as goal

pub loop-series-preserved : goal.loop-series-preserved
loop-series-preserved c =
    let one = subst (λ s. SortsSeries s c.sort_one.new.series) (sym c.series-item.is) c.sort_one.ensures in
    let both = sorted_on c.args.message.now c.loop-series.message c.loop-series.series-index c.series-item.result c.sort_one.new.series c.loop-series-test.true
    c.series-item.is c.loop-series.invariant.done c.loop-series.invariant.rest one in
    record { done = both.0; rest = both.1 }
