use Rattle.std.proofs.Common.{◌≡◌, ◌+◌, ◌≤◌, vec_len, vec_capacity}
use Rattle.std.specs.Vec.Iter.{into_iter_len}
use Rattle.rw_receive.proofs.seat_pool.SeatPool.into_seats.Given as goal

abbrev pub invariant-loop-connection : goal.invariant-loop-connection
invariant-loop-connection g l = record {
  left : vec_len l.seats + into_iter_len l.connection-iterator ≡ l.fn.self;
  room : l.fn.self ≤ vec_capacity l.seats;
}
