-- Powers that pass every number of 64 bits.
use Rattle.std.proofs.Common.{◌≡◌, ℕ, ◌*◌, ◌^◌, ◌<◌, ◌≤◌, min, arith, mul_comm, lit<}
use Rattle.std.proofs.Math.Nat.{pow-le-pow_right, mul-le-mul_left}

-- from the 64th retry on it is the greatest
pub late : (least most retry : ℕ) → 1 ≤ least → most < 2 ^ 64 → 64 ≤ retry → most ≡ min (least * 2 ^ retry) most
late least most retry some fits much =
    let power : 2 ^ 64 ≤ 2 ^ retry = pow-le-pow_right (lit< tt) much in
    let more : 2 ^ retry * 1 ≤ 2 ^ retry * least = mul-le-mul_left (2 ^ retry) some in
    omega (arith, power, more, mul_comm least (2 ^ retry), fits)
