use Rattle.std.proofs.Common.{◌≤◌}
use Rattle.std.specs.VecDeque.{deque_len}
use Rattle.rw_metrics_server.proofs.server.serve_metrics.Given as goal

abbrev pub invariant-loop : goal.invariant-loop
invariant-loop g l = deque_len l.clients ≤ 16
