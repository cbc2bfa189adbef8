use Rattle.rw_batch.proofs.GroupsLemmas.{nothing_grouped}
use Rattle.rw_batch.proofs.grouping.Grouping.new.Goals as goal

pub invariant_of-result : goal.invariant_of-result
invariant_of-result c = nothing_grouped _ _ c.new.ensures.empty c.new-2.ensures.items
