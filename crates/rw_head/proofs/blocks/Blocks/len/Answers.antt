use Rattle.std.proofs.Common.{arith, ap, length}
use Rattle.rw_head.proofs.BlockLemmas.{length-blocks}
use Rattle.rw_head.proofs.blocks.Blocks.len.Goals as goal

pub overflow_mul-result : goal.overflow_mul-result
overflow_mul-result c =
    omega (arith, length-blocks (λ b. b.value) c.self.inside.sealed.items c.self.inside.rest.items c.args.self.now c.self.invariant.full c.self.view_is, ap length c.self.view_is, c.self.invariant.fits)

pub overflow_add-result : goal.overflow_add-result
overflow_add-result c =
    omega (arith, length-blocks (λ b. b.value) c.self.inside.sealed.items c.self.inside.rest.items c.args.self.now c.self.invariant.full c.self.view_is, ap length c.self.view_is, c.self.invariant.fits)

pub returns-clause-len : goal.returns-clause-len
returns-clause-len c =
    omega (arith, length-blocks (λ b. b.value) c.self.inside.sealed.items c.self.inside.rest.items c.args.self.now c.self.invariant.full c.self.view_is)

pub returns-clause-fits : goal.returns-clause-fits
returns-clause-fits c =
    omega (arith, length-blocks (λ b. b.value) c.self.inside.sealed.items c.self.inside.rest.items c.args.self.now c.self.invariant.full c.self.view_is, ap length c.self.view_is, c.self.invariant.fits)
