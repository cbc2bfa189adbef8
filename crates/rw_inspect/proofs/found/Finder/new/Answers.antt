use Rattle.rw_inspect.proofs.FindingLemmas.{finder_none}
use Rattle.rw_inspect.proofs.found.Finder.new.Goals as goal

pub invariant_of-result : goal.invariant_of-result
invariant_of-result c = finder_none _ _ _ _ _ c.new.ensures c.any_names.ensures c.new-2.ensures c.new-3.ensures.items
