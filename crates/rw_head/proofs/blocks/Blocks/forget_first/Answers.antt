use Rattle.std.proofs.Common.{ap, sym, refl, arith, ◌++◌, ◌∙◌}
use Rattle.std.proofs.Math.Facts.{to_z-of_z}
use Rattle.rw_head.specs.Order.{is_later}
use Rattle.rw_head.proofs.ForgettingLemmas.{first_same, moved_first}
use Rattle.rw_head.proofs.blocks.Blocks.forget_first.Goals as goal

pub returns : goal.returns
returns c =
    let block = c.samples.ensures.samples ∙ c.deref-2.ensures ∙ first_same (λ b. b.value) c.self.inside.sealed.items c.in-Some.first.now c.remove-block.result (rw c.deref.ensures.value at c.in-Some.ensures.value) c.remove-block.ensures.value in
    moved_first (λ b. b.value) c.args.before c.self.inside.sealed.items c.remove-block.new.self.items c.remove-block.result c.self.inside.rest.items c.args.self.now _ c.args.gone.now c.push.new.self
    c.remove-block.ensures.value c.self.invariant.few c.remove-block.ensures.by_index.2 c.self.invariant.full c.requires
    (ap (is_later c.args.before) (sym block) ∙ sym (ap (λ z. is_later z c.samples.result.now) (to_z-of_z c.ranges.before)) ∙ sym c.is_later.ensures ∙ c.if-not-is_later.false)
    c.self.view_is refl (c.push.ensures ∙ ap (λ b. c.args.gone.now ++ b) c.deref-3.ensures) (omega (arith, c.if-len-le-BLOCK_LEN.false, c.len.ensures.len))
