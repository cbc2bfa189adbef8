use Rattle.std.proofs.Common.{List, ap, subst}
use Rattle.rw_fleet.specs.Stopped.{StoppedList}
use Rattle.rw_fleet.specs.declared.joined.StoppedShard.{StoppedShard}
use Rattle.rw_fleet.specs.inner.Work.{HasUnresolved}
use Rattle.rw_fleet.proofs.StoppedLemmas.{unresolved_append}
use Rattle.rw_fleet.proofs.stopped.StoppedShards.resolution.Goals as goal

pub returns-clause-not_all : goal.returns-clause-not_all
returns-clause-not_all g c = λ left.
    subst (λ (js : List (StoppedShard _)). HasUnresolved js) (ap (λ (s : StoppedList _). s.items) c.self.view_is) (unresolved_append c.self.inside.folded c.self.inside.kept.items (c.resolution_of.ensures.not_all left))
