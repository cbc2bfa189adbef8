use Rattle.std.proofs.Common.{ap}
use Rattle.rw_external_labels.specs.External.{labelled}
use Rattle.rw_log_commands.proofs.PlanLemmas.{planned_none}
use Rattle.rw_log_commands.proofs.planner.Planner.new.Goals as goal

pub invariant_of-result : goal.invariant_of-result
invariant_of-result c _ = planned_none _ _ _ _ (ap (labelled c.args.external) c.new.ensures) c.new-2.ensures c.new-3.ensures.items
