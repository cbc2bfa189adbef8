use Rattle.rw_inspect.proofs.CounterLemmas.{counted_all}
use Rattle.rw_inspect.proofs.counter.Counter.counts.Goals as goal

pub returns : goal.returns
returns c =
    rw (← c.self.view_is) (counted_all _ _ _ _ _ _ _ _ _ c.self.invariant c.series_count.ensures c.without_series.ensures c.bad_labels.ensures c.not_rising.ensures)
