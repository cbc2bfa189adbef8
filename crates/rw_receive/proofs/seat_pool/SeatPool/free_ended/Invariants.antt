use Rattle.std.proofs.Common.{◌≡◌, ◌+◌, ◌≤◌, vec_len, vec_capacity, deque_len, deque_capacity}
use Rattle.rw_receive.proofs.seat_pool.SeatPool.free_ended.Given as goal

abbrev pub invariant-loop : goal.invariant-loop
invariant-loop g l = record {
  all : vec_len l.self-inside.free + deque_len l.self-inside.active ≡ l.fn.self;
  free : l.fn.self ≤ vec_capacity l.self-inside.free;
  active : l.fn.self ≤ deque_capacity l.self-inside.active;
}
