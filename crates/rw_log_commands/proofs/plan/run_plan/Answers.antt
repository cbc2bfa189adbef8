use Rattle.rw_log_commands.proofs.plan.run_plan.Goals as goal

pub returns-clause-ok : goal.returns-clause-ok
returns-clause-ok g c = rw c.none.ensures at c.run_plan_with.ensures.ok

pub returns-clause-device : goal.returns-clause-device
returns-clause-device g c = rw c.none.ensures at c.run_plan_with.ensures.device
