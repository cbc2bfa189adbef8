use Rattle.rw_inspect.proofs.FindingLemmas.{set_said}
use Rattle.rw_inspect.proofs.found.push_set.Goals as goal

pub returns-in-Ok : goal.returns-in-Ok
returns-in-Ok c = set_said _ _ _ _ _ c.in-Ok.ensures.ok c.in-Ok.ensures.label_set c.push_labels.ensures.ok
