use Rattle.rw_report_text.proofs.state.push_all_dropped.Goals as goal
use Rattle.rw_types.proofs.shared.AnswerLemmas.{OnErr-always}
use Rattle.rw_types.proofs.shared.BeginningLemmas.{begins_then}

pub returns-in_err-push_dropped-clause-err : goal.returns-in_err-push_dropped-clause-err
returns-in_err-push_dropped-clause-err c = OnErr-always c.from_residual.result (begins_then _ _ _ _ c.loop-name.invariant c.in_err-push_dropped.ensures.err)
