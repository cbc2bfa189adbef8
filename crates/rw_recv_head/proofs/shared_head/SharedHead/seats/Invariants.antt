use Rattle.std.proofs.Common.{◌≡◌, ℕ, ◌+◌, ◌≤◌, [], Some, slice_get, vec_len, vec_capacity}
use Rattle.rw_recv_head.specs.Seats.{Seated}
use Rattle.rw_recv_head.proofs.shared_head.SharedHead.seats.Given as goal

abbrev pub invariant-loop-k : goal.invariant-loop-k
invariant-loop-k g l = record {
  len : vec_len l.seats ≡ l.k;
  room : l.n ≤ vec_capacity l.seats;
  parts : l.rest.parts + l.k ≡ l.n + 1;
  amount : l.rest.amount ≡ l.initial.rest.amount;
  questions : l.questions ≡ record { asked = []; given = l.k; back = [] };
  numbered : (k : ℕ) (s : Seated) → slice_get l.seats.items k ≡ Some s → s ≡ record { number = k; stored = 0; asked = [] };
  below : l.k ≤ l.n;
}
