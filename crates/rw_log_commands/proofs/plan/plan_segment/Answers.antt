use Rattle.std.proofs.Common.{ap, Err, Ok}
use Rattle.rw_log_commands.proofs.PlanRuns.{begins_one, plan_failed, plans_segment}
use Rattle.rw_log_commands.proofs.TakingLemmas.{same_error, says_log, says_so, segment_to_fault}
use Rattle.rw_log_commands.proofs.plan.plan_segment.Goals as goal

pub returns-in-None-clause-ok : goal.returns-in-None-clause-ok
returns-in-None-clause-ok g c = plans_segment _ _ c.args.may_compress _ _ _ _ (c.in_ok-plan_log.ensures.ok (ap Ok c.in-None.is) _ (begins_one _))

pub returns-in-Some-clause-log : goal.returns-in-Some-clause-log
returns-in-Some-clause-log g c = λ f is.
    segment_to_fault c.args.may_compress f _ _ (says_log c.args.may_compress _ f _ is (says_so c.args.may_compress _ c.in-Some.damage _ (λ named. c.in_ok-plan_log.ensures.log c.in-Some.damage (ap Ok c.in-Some.is) named _ (begins_one _)) c.from.ensures))

pub returns-in_err-plan_log-clause-device : goal.returns-in_err-plan_log-clause-device
returns-in_err-plan_log-clause-device g c = λ is.
    plan_failed _ _ c.args.may_compress _ _ _ _ _ _ _ _ (c.in_err-plan_log.ensures.device (ap Err (same_error _ _ _ c.from_residual.ensures.1 is)))
