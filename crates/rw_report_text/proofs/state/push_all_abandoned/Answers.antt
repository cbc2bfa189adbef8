use Rattle.rw_report_text.proofs.state.push_all_abandoned.Goals as goal
use Rattle.rw_types.proofs.shared.AnswerLemmas.{OnErr-always}
use Rattle.rw_types.proofs.shared.BeginningLemmas.{begins_then}

pub returns-in_err-push_abandoned-clause-err : goal.returns-in_err-push_abandoned-clause-err
returns-in_err-push_abandoned-clause-err c = OnErr-always c.from_residual.result (begins_then _ _ _ _ c.loop-pos.invariant c.in_err-push_abandoned.ensures.err)
