use Rattle.std.proofs.Common.{◌∙◌, ap, inr, sym}
use Rattle.rw_log_commands.specs.Planned.{Planned}
use Rattle.rw_log_commands.proofs.PlanRuns.{plan_cut, plan_written}
use Rattle.rw_log_commands.proofs.TakingLemmas.{answers_fault, none_there, reads_whole}
use Rattle.rw_log_commands.proofs.plan.plan_log.Goals as goal

pub returns-clause-ok : goal.returns-clause-ok
returns-clause-ok g c = λ is start begins.
    let read = c.in_ok-read.ensures in
    let none = none_there _ (sym c.is_some.ensures ∙ c.if-is_some.false) in
    plan_written _ _ _ _ c.args.may_compress _ _ _ _ _ _ _ (reads_whole c.args.may_compress _ _ _ _ _ _ (read.ok start begins) none) (read.fixed ∙ ap (λ (p : Planned). (p.choice, p.external)) c.new.ensures) c.in_ok-plan.ensures.text c.deref.ensures.value c.in_ok-write_all.ensures.ok

pub returns-then-is_some-clause-log : goal.returns-then-is_some-clause-log
returns-then-is_some-clause-log g c = λ d is named start begins. answers_fault c.args.may_compress _ _ _ _ _ _ d (c.in_ok-read.ensures.ok start begins) is named

pub returns-in_err-write_all-clause-device : goal.returns-in_err-write_all-clause-device
returns-in_err-write_all-clause-device g c = λ is.
    let read = c.in_ok-read.ensures in
    let none = none_there _ (sym c.is_some.ensures ∙ c.if-is_some.false) in
    inr (
      c.in_err-write_all.ensures.failed,
      λ start begins.
          plan_cut _ _ _ _ c.args.may_compress _ _ _ _ _ _ _ (reads_whole c.args.may_compress _ _ _ _ _ _ (read.ok start begins) none) (read.fixed ∙ ap (λ (p : Planned). (p.choice, p.external)) c.new.ensures) c.in_ok-plan.ensures.text c.deref.ensures.value c.in_err-write_all.ensures.part,
    )
