use Rattle.std.proofs.Common.{ℕ, List, take, sym, subst}
use Rattle.std.proofs.lemmas.List.{take_more}
use Rattle.rw_resume.specs.Continuations.{IsLeastFrom}
use Rattle.rw_resume.proofs.continuation.least_from.Goals as goal

pub loop-number-preserved : goal.loop-number-preserved
loop-number-preserved c =
    let seen = take c.loop-number.number-index c.args.numbers.now in
    subst (λ (xs : List ℕ). IsLeastFrom c.args.segment xs c.least_with-least.result) (sym (take_more c.args.numbers.now c.loop-number.number-index 0 c.loop-number-test.true))
    (c.least_with-least.ensures seen c.loop-number.invariant)
