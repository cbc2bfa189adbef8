use Rattle.std.proofs.Common.{◌≡◌, drop}
use Rattle.rw_log_folder.specs.inner.Order.{gap_after}
use Rattle.rw_log_folder.proofs.order.gap_after.Given as goal

abbrev pub invariant-loop-name : goal.invariant-loop-name
invariant-loop-name l = gap_after l.fn.last l.names ≡ gap_after l.last (drop l.name-index l.names)
