use Rattle.std.proofs.Common.{sym, ◌∙◌}
use Rattle.rw_log_commands.proofs.PlanLemmas.{labelled-push, planned_definition, planned_sample}
use Rattle.rw_log_commands.proofs.planner.Planner.take.Goals.{in-Def+in_ok-define-in-Def, in-Sample+in_ok-count-in-Sample}
use Rattle.rw_log_commands.proofs.planner.Planner.take.Goals as goal

pub invariant_of-self-2 : goal.invariant_of-self-2
invariant_of-self-2 c = elim c.match-labelled.branch [
  | in-Def+in_ok-define-in-Def w ↦
      rw (w.self-inside-is, c.push.ensures, c.again-taken.ensures, labelled-push _ _ _ _ (sym w.in-Def.is ∙ c.in_ok-labelled.ensures.ok))
      (λ _.
      planned_definition _ _ _ _ _ _ _ _ (c.self.invariant c.if-self.false) w.in_ok-define-in-Def.ensures.cache w.in_ok-define-in-Def.ensures.lines)
  | in-Sample+in_ok-count-in-Sample w ↦
      rw (w.self-inside-is, c.push.ensures, c.again-taken.ensures, labelled-push _ _ _ _ (sym w.in-Sample.is ∙ c.in_ok-labelled.ensures.ok))
      (λ _. planned_sample _ _ _ _ _ _ _ _ (c.self.invariant c.if-self.false) w.in_ok-count-in-Sample.ensures)
]
