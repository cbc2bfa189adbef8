use Rattle.rw_types.proofs.shared.BeginningLemmas.{begins_then}
use Rattle.rw_text.proofs.print.put_more.Goals as goal
use Rattle.rw_types.proofs.shared.AnswerLemmas.{OnErr-always}

pub returns-in_err-put_next-clause-err : goal.returns-in_err-put_next-clause-err
returns-in_err-put_next-clause-err c = OnErr-always c.from_residual.result (begins_then _ _ _ _ c.loop-label.invariant c.in_err-put_next.ensures.err)
