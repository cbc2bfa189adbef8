use Rattle.std.proofs.Common.{map, sym, ap, ◌∙◌}
use Rattle.rw_head.specs.Blocks.{sealed_of}
use Rattle.rw_head.proofs.BlockLemmas.{sealed_of-joined}
use Rattle.rw_head.proofs.blocks.Blocks.sealed.Goals as goal

pub returns : goal.returns
returns c =
    ap (map (λ b. b.value)) c.deref.ensures.value ∙ sym (sealed_of-joined _ c.self.inside.rest.items c.self.invariant.full c.self.invariant.few) ∙ ap sealed_of c.self.view_is
