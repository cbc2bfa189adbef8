use Rattle.std.proofs.Common.{subst}
use Rattle.rw_types.specs.Labels.{IsLabelSet}
use Rattle.rw_log_commands.proofs.PlanLemmas.{set_line}
use Rattle.rw_log_commands.proofs.planner.define.Goals as goal

pub returns-in_ok-define-in-Ok-clause-lines : goal.returns-in_ok-define-in-Ok-clause-lines
returns-in_ok-define-in-Ok-clause-lines c =
    set_line _ _ _ _ _ _ _ _ _ c.in_ok-define-in-Ok.ensures.ok c.in-Ok.ensures.ok (subst (λ n. IsLabelSet n c.args.labels) c.names.ensures c.in-Ok.ensures.label_set) c.look.ensures.log c.push_found.ensures
