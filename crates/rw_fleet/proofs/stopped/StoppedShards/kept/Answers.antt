use Rattle.std.proofs.Common.{ap, ◌∙◌}
use Rattle.rw_fleet.specs.Stopped.{StoppedList, abandoned_in}
use Rattle.rw_fleet.proofs.StoppedLemmas.{abandoned_after}
use Rattle.rw_fleet.proofs.stopped.StoppedShards.kept.Goals as goal

pub returns-clause-abandoned : goal.returns-clause-abandoned
returns-clause-abandoned g c =
    ap abandoned_in c.as_slice.ensures.value ∙ abandoned_after c.self.inside.folded c.self.inside.kept.items c.self.invariant.0 ∙ ap (λ (s : StoppedList _). abandoned_in s.items) c.self.view_is
