use Rattle.std.proofs.Common.{◌/◌, ◌%◌, vec_capacity, take, ap, ◌∙◌, arith}
use Rattle.rw_head.proofs.BlockLemmas.{AreBlocks-reopened, reopened, cut_open}
use Rattle.rw_head.proofs.blocks.Blocks.truncate.Goals as goal

pub invariant_of-self : goal.invariant_of-self
invariant_of-self c =
    AreBlocks-reopened (λ b. b.value) c.self.inside.sealed.items c.truncate.new.self.items c.index.result.now c.self.inside.rest.items c.refill.new.rest.items (vec_capacity c.self.inside.rest)
    (vec_capacity c.refill.new.rest) (c.args.len / 120) (c.args.len % 120) c.self.invariant c.truncate.ensures.items c.index.ensures (omega arith)
    (c.refill.ensures.samples ∙ ap (take (c.args.len % 120)) (c.samples.ensures.samples ∙ c.deref.ensures)) (omega arith) c.refill.ensures.room

pub returns-then-full-len : goal.returns-then-full-len
returns-then-full-len c =
    reopened (λ b. b.value) c.self.inside.sealed.items c.truncate.new.self.items c.index.result.now c.self.inside.rest.items c.refill.new.rest.items c.args.self.now c.args.len (c.args.len / 120) (c.args.len % 120)
    c.self.invariant.full c.truncate.ensures.items c.index.ensures (omega arith)
    (c.refill.ensures.samples ∙ ap (take (c.args.len % 120)) (c.samples.ensures.samples ∙ c.deref.ensures)) (omega arith) (omega arith) c.self.view_is

pub returns-else-full-len : goal.returns-else-full-len
returns-else-full-len c =
    cut_open (λ b. b.value) c.self.inside.sealed.items c.self.inside.rest.items c.truncate-else-full-len.new.self.items c.args.self.now c.args.len (c.args.len / 120) (c.args.len % 120)
    c.self.invariant.full c.self.invariant.few (omega arith) (omega arith) c.requires c.truncate-else-full-len.ensures.items c.self.view_is
