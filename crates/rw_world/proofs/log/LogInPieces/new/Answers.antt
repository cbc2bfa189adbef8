use Rattle.rw_world.proofs.shared.ReadingLemmas.{nothing_read}
use Rattle.rw_world.proofs.log.LogInPieces.new.Goals as goal

pub invariant_of-result : goal.invariant_of-result
invariant_of-result c = rw (c.new.ensures.new, c.new-2.ensures.items) nothing_read
