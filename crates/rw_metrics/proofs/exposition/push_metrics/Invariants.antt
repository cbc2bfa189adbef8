use Rattle.std.proofs.Common.{◌≡◌, ◌++◌}
use Rattle.rw_metrics.specs.Exposition.{metric_text}
use Rattle.rw_metrics.specs.inner.Exposition.{metric_of}
use Rattle.rw_metrics.proofs.RowLemmas.{rows_from}
use Rattle.rw_metrics.proofs.exposition.push_metrics.Given as goal

abbrev pub invariant-loop-i : goal.invariant-loop-i
invariant-loop-i l =
    l.out.items ++ rows_from metric_of (λ row. metric_text row.0 row.1) l.metrics l.numbers l.i
    ≡ l.initial.out.items ++ rows_from metric_of (λ row. metric_text row.0 row.1) l.metrics l.numbers 0
