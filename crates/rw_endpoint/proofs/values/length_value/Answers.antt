use Rattle.std.proofs.Common.{◌<◌, ◌≤◌, ◌^◌, ◌*◌, ◌+◌, ℕ, arith}
use Rattle.std.proofs.Math.Nat.{pow-le-pow_right}
use Rattle.rw_endpoint.proofs.values.length_value.Goals as goal

-- 18 digits leave room for one more
room : (n i : ℕ) → i ≤ 18 → n < 10 ^ i → n * 10 + 9 < 2 ^ 64
room n i le lt =
    let ten : 0 < 10 = omega arith in
    let top : 10 ^ i ≤ 10 ^ 18 = pow-le-pow_right ten le in
    omega (arith, top, lt)

pub overflow_mul-n : goal.overflow_mul-n
overflow_mul-n c =
    omega (arith, room c.loop-b.n c.loop-b.b-index (omega arith) c.loop-b.invariant.bound)

pub overflow_add-n : goal.overflow_add-n
overflow_add-n c =
    let more : c.loop-b.n * 10 + 9 < 2 ^ 64 = room c.loop-b.n c.loop-b.b-index (omega arith) c.loop-b.invariant.bound in
    omega (arith, more, c.if-not-is_ascii_digit.ensures.bound, c.if-not-is_ascii_digit.ensures.cases)
