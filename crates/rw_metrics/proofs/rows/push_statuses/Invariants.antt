use Rattle.std.proofs.Common.{◌≡◌, ◌++◌, take, flat_map}
use Rattle.rw_metrics.specs.Rows.{status_text}
use Rattle.rw_metrics.specs.inner.Rows.{shape_of}
use Rattle.rw_metrics.proofs.rows.push_statuses.Given as goal

abbrev pub invariant-loop-count : goal.invariant-loop-count
invariant-loop-count l = l.out.items ≡ l.fn.out.items ++ flat_map (status_text (shape_of l.form) l.label) (take l.count-index l.counts)
