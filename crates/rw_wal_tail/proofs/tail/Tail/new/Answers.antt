use Rattle.std.proofs.Common.{refl, arith, false}
use Rattle.rw_wal_tail.proofs.FedLaws.{follows_start}
use Rattle.rw_wal_tail.proofs.tail.Tail.new.Goals as goal

pub invariant_of-result : goal.invariant_of-result
invariant_of-result c = rw (c.new-2.ensures, c.new-3.ensures) (record { follows = follows_start false c.new.result c.new.ensures.reader c.new.ensures.unfed; counted = refl; bound = omega arith; stuck = tt; kept = c.new.ensures.kept })
