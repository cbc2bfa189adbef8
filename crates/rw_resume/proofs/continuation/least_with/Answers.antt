use Rattle.std.proofs.Common.{ℕ, Option, subst}
use Rattle.rw_resume.specs.Continuations.{IsLeastFrom}
use Rattle.rw_resume.proofs.ContinuationLemmas.{least_falls, least_first, least_kept, least_stays}
use Rattle.rw_resume.proofs.continuation.least_with.Goals as goal

pub returns-then-number-segment : goal.returns-then-number-segment
returns-then-number-segment c = λ seen h. least_kept _ seen c.args.least _ c.if-number-segment.true h

pub returns-in-None : goal.returns-in-None
returns-in-None c = λ seen h. least_first _ seen _ c.if-number-segment.false (subst (λ (o : Option ℕ). IsLeastFrom c.args.segment seen o) c.in-None.is h)

pub returns-then-other-number : goal.returns-then-other-number
returns-then-other-number c = λ seen h. least_stays _ seen c.in-Some.other _ c.if-other-number.true (subst (λ (o : Option ℕ). IsLeastFrom c.args.segment seen o) c.in-Some.is h)

pub returns-else-other-number : goal.returns-else-other-number
returns-else-other-number c = λ seen h. least_falls _ seen c.in-Some.other _ c.if-number-segment.false c.if-other-number.false (subst (λ (o : Option ℕ). IsLeastFrom c.args.segment seen o) c.in-Some.is h)
