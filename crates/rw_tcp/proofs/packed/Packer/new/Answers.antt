use Rattle.rw_tcp.proofs.PackingLemmas.{nothing-packed}
use Rattle.rw_tcp.proofs.packed.Packer.new.Goals as goal

pub invariant_of-result : goal.invariant_of-result
invariant_of-result c = rw (c.new-3.ensures.items, c.new-4.ensures.items) (nothing-packed c.args.target)
