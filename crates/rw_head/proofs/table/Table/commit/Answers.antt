use Rattle.std.proofs.Common.{subst, List, ap, ◌∙◌}
use Rattle.rw_types.specs.Beginnings.{Begins}
use Rattle.rw_types.specs.Labels.{Labels}
use Rattle.rw_head.specs.inner.Lists.{settled_names}
use Rattle.rw_head.proofs.PlacedLemmas.{settled_begins}
use Rattle.rw_head.proofs.shared.StagingLemmas.{committed, IsSound-committed}
use Rattle.rw_head.proofs.ForgettingLemmas.{listed_same}
use Rattle.rw_head.proofs.table.Table.commit.Goals as goal

pub invariant_of-self : goal.invariant_of-self
invariant_of-self c = (
  IsSound-committed c.self.inside.places.tree c.self.inside.lists.items c.commit_all.new.lists.items c.self.inside.touched.items c.clear.new.self.items c.self.inside.fresh.items c.clear-2.new.self.items c.self.inside.count c.self.inside.staged_count
      c.self.invariant.0 c.clear.ensures.items c.clear-2.ensures.items c.commit_all.ensures.len c.commit_all.ensures.kept c.commit_all.ensures.staged,
  listed_same c.self.invariant.1 c.commit_all.ensures.len c.commit_all.ensures.gone,
)

pub returns-clause-kept : goal.returns-clause-kept
returns-clause-kept c =
    (committed c.self.inside.places.tree c.self.inside.lists.items c.commit_all.new.lists.items c.self.invariant.0.places c.commit_all.ensures.len c.commit_all.ensures.kept c.commit_all.ensures.staged).0
    ∙ ap (λ s. s.staged) c.self.view_is

pub returns-clause-staged : goal.returns-clause-staged
returns-clause-staged c =
    (committed c.self.inside.places.tree c.self.inside.lists.items c.commit_all.new.lists.items c.self.invariant.0.places c.commit_all.ensures.len c.commit_all.ensures.kept c.commit_all.ensures.staged).1
    ∙ ap (λ s. s.staged) c.self.view_is

pub returns-clause-placed : goal.returns-clause-placed
returns-clause-placed c =
    subst (λ (ns : List Labels). Begins ns (settled_names c.self.inside.places.names.items c.clear-2.new.self.items)) (ap (λ s. s.placed) c.self.view_is)
    (settled_begins c.self.inside.places.names.items c.self.inside.fresh.items c.clear-2.new.self.items c.clear-2.ensures.items)
