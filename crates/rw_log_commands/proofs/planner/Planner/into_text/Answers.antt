use Rattle.rw_log_commands.proofs.PlanLemmas.{planned_text}
use Rattle.rw_log_commands.proofs.planner.Planner.into_text.Goals as goal

pub returns-clause-text : goal.returns-clause-text
returns-clause-text c =
    rw (← c.self.view_is) (planned_text _ _ _ _ _ _ (c.self.invariant c.if-has_failed.false) c.in_ok-push_to.ensures)
