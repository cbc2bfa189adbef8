use Rattle.std.proofs.Common.{◌≡◌, List, ℕ, length, take, drop, vec_len, vec_capacity}
use Rattle.rw_batch.specs.inner.Kept.{IsTrail}
use Rattle.rw_batch.proofs.rows.walk_back.Given as goal

abbrev pub invariant-loop : goal.invariant-loop
invariant-loop l = record {
  trail : (back : List ℕ) → IsTrail l.before l.fn.line.last back → l.fn.line.count ≡ length back → (l.row.items ≡ take l.counter back) × IsTrail l.before l.at (drop l.counter back);
  len : vec_len l.row ≡ l.counter;
  room : vec_capacity l.row ≡ vec_capacity l.fn.row;
}
