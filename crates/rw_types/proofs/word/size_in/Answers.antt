use Rattle.std.proofs.Common.{◌≤◌, ◌%◌, ◌/◌, ◌-◌, ◌^◌, arith, inl, inr}
use Rattle.std.proofs.lemmas.Nat.{shr_le}
use Rattle.rw_types.proofs.shared.WordReads.{small_none, size_is, size_bound}
use Rattle.rw_types.proofs.word.size_in.Goals as goal
use Rattle.rw_types.proofs.word.size_in.Goals.{then-top-lt53, else-top-lt53, then-exponent-lt1023-via-then-exponent-lt1023, then-exponent-lt1023-via-else-exponent-lt1023+then-exponent-gt1076}

pub returns-then-exponent-lt1023-clause-size : goal.returns-then-exponent-lt1023-clause-size
returns-then-exponent-lt1023-clause-size c =
    λ m e. elim c.then-exponent-lt1023.branch [
      | then-exponent-lt1023-via-then-exponent-lt1023 w ↦ small_none m c.args.bits e (inl w.if-exponent-lt1023.true)
      | then-exponent-lt1023-via-else-exponent-lt1023+then-exponent-gt1076 w ↦ small_none m c.args.bits e (inr w.if-exponent-gt1076.true)
    ]

pub returns-clause-size : goal.returns-clause-size
returns-clause-size c =
    λ m e. elim c.if-top-lt53.branch [
      | then-top-lt53 w ↦ size_is m c.args.bits c.scaled.result c.if-top-lt53.above e c.if-exponent-lt1023.false c.scaled.ensures (λ _. w.above-is) (λ g. absurd (omega (arith, w.if-top-lt53.true)))
      | else-top-lt53 w ↦ size_is m c.args.bits c.scaled.result c.if-top-lt53.above e c.if-exponent-lt1023.false c.scaled.ensures (λ l. absurd (omega (arith, w.if-top-lt53.false))) (λ _. w.above-is)
    ]

pub returns-clause-bound : goal.returns-clause-bound
returns-clause-bound c =
    let low : c.args.bits / 2 ^ 52 % 2048 - 1023 ≤ 53 = omega (arith, c.if-exponent-gt1076.false) in
    elim c.if-top-lt53.branch [
      | then-top-lt53 w ↦ size_bound (c.args.bits / 2 ^ 52 % 2048 - 1023) c.scaled.result c.if-top-lt53.above (c.args.bits % 2 ^ 52) low c.scaled.ensures
          (omega (arith, w.above-is, shr_le (c.args.bits % 2 ^ 52) (52 - (c.args.bits / 2 ^ 52 % 2048 - 1023)))) (omega arith)
      | else-top-lt53 w ↦ size_bound (c.args.bits / 2 ^ 52 % 2048 - 1023) c.scaled.result c.if-top-lt53.above (c.args.bits % 2 ^ 52) low c.scaled.ensures
          (omega (arith, w.above-is)) (omega arith)
    ]
