use Rattle.rw_wal_tail.proofs.FedLaws.{follows_same}
use Rattle.rw_wal_tail.proofs.KeptLaws.{copied_stuck}
use Rattle.rw_wal_tail.proofs.tail.Tail.copy.Goals as goal

pub invariant_of-result : goal.invariant_of-result
invariant_of-result c =
    let i = c.self.invariant in
    let r = c.in_ok-copy.field-0 in
    rw (c.again.ensures, c.again-2.ensures) (record {
      follows = follows_same _ c.self.inside.given c.self.inside.reader r i.follows c.in_ok-copy.ensures.same;
      counted = i.counted;
      bound = i.bound;
      stuck = copied_stuck c.self.inside.reader r c.self.inside.told c.in_ok-copy.ensures.fault c.in_ok-copy.ensures.ready i.stuck;
      kept = c.in_ok-copy.ensures.kept _ i.kept;
    })
