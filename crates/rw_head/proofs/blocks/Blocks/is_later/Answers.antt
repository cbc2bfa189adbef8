use Rattle.std.proofs.Common.{map, vec_len, ap, arith, ◌∙◌}
use Rattle.std.proofs.Math.Facts.{to_z-of_z}
use Rattle.rw_head.specs.Order.{is_later}
use Rattle.rw_head.specs.Blocks.{joined_blocks}
use Rattle.rw_head.proofs.BlockLemmas.{later_rest, later_sealed}
use Rattle.rw_head.proofs.blocks.Blocks.is_later.Goals as goal

pub returns-then-not-is_empty : goal.returns-then-not-is_empty
returns-then-not-is_empty c =
    c.is_later.ensures ∙ ap (λ z. is_later z c.deref.result.now) (to_z-of_z c.ranges.t) ∙ ap (is_later c.args.t) c.deref.ensures.value
    ∙ later_rest c.args.t (joined_blocks (map (λ b. b.value) c.self.inside.sealed.items)) c.self.inside.rest.items (vec_len c.self.inside.rest) c.if-not-is_empty.ensures (omega arith) ∙ ap (is_later c.args.t) c.self.view_is

pub returns-in-Some : goal.returns-in-Some
returns-in-Some c =
    c.is_later-in-Some.ensures ∙ ap (λ z. is_later z c.samples.result.now) (to_z-of_z c.ranges.t) ∙ ap (is_later c.args.t) (c.samples.ensures.samples ∙ c.deref-in-Some.ensures)
    ∙ later_sealed (λ b. b.value) c.args.t c.self.inside.sealed.items c.in-Some.block.now c.self.inside.rest.items (vec_len c.self.inside.rest) c.self.invariant.full c.if-not-is_empty.ensures (omega arith)
    (rw c.deref-2.ensures.value at c.in-Some.ensures.value)
    ∙ ap (is_later c.args.t) c.self.view_is
