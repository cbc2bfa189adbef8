use Rattle.std.proofs.Common.{◌+◌, ◌-◌, ap, refl, ◌∙◌}
use Rattle.rw_kept_log.specs.References.{all_defined}
use Rattle.rw_kept_log.proofs.TableLemmas.{committed, committed_table}
use Rattle.rw_kept_log.proofs.references.References.commit.Goals as goal

pub invariant_of-self : goal.invariant_of-self
invariant_of-self c =
    committed c.self.inside.sets.entries c.self.inside.defined c.self.inside.next c.len-len.result (c.self.inside.next + (c.len-len.result - c.self.inside.defined)) c.self.invariant c.len-len.ensures.len refl

pub returns : goal.returns
returns c =
    committed_table c.self.inside.sets.entries c.self.inside.defined c.self.inside.next c.len-len.result (c.self.inside.next + (c.len-len.result - c.self.inside.defined)) c.self.invariant c.len-len.ensures.len refl
    ∙ ap all_defined c.self.view_is
