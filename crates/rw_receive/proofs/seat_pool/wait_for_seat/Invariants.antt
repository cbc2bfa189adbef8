use Rattle.std.proofs.Common.{◌≡◌}
use Rattle.rw_receive.proofs.seat_pool.wait_for_seat.Given as goal

abbrev pub invariant-loop : goal.invariant-loop
invariant-loop g l = l.pool ≡ l.fn.pool
