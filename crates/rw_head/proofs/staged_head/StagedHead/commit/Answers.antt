use Rattle.rw_head.specs.Store.{list_of}
use Rattle.rw_head.proofs.BlockLemmas.{sealed_begins}
use Rattle.rw_head.proofs.staged_head.StagedHead.commit.Goals as goal

pub returns-clause-begins : goal.returns-clause-begins
returns-clause-begins g c = rw (← c.self.view_is, c.commit.ensures.kept) c.self.invariant.0.begins

pub returns-clause-blocks : goal.returns-clause-blocks
returns-clause-blocks g c = rw (← c.self.view_is, c.commit.ensures.kept) (λ l. sealed_begins (list_of c.self.inside.table.kept l) (list_of c.self.inside.table.staged l) (c.self.invariant.0.begins l))

pub returns-clause-more : goal.returns-clause-more
returns-clause-more g c = rw (← c.self.view_is, c.commit.ensures.kept) c.self.invariant.0.more

pub returns-clause-rises : goal.returns-clause-rises
returns-clause-rises g c = rw (c.commit.ensures.kept) c.self.invariant.0.rises_after
