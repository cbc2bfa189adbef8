use Rattle.rw_log_commands.proofs.LabellingLemmas.{nothing_taken}
use Rattle.rw_log_commands.proofs.labelling.Labelling.new.Goals as goal

pub invariant_of-result : goal.invariant_of-result
invariant_of-result c = nothing_taken _ _ _ _ c.new.ensures c.legacy.ensures c.new-2.ensures c.new-3.ensures
