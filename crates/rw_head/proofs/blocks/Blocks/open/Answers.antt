use Rattle.std.proofs.Common.{sym, ap, ◌∙◌}
use Rattle.rw_head.specs.inner.Blocks.{open_of}
use Rattle.rw_head.proofs.BlockLemmas.{open_of-joined}
use Rattle.rw_head.proofs.blocks.Blocks.open.Goals as goal

pub returns-clause-samples : goal.returns-clause-samples
returns-clause-samples c = c.deref.ensures.value ∙ sym (open_of-joined _ c.self.inside.rest.items c.self.invariant.full c.self.invariant.few) ∙ ap open_of c.self.view_is
