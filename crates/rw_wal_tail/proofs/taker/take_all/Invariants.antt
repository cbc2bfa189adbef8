use Rattle.std.proofs.Common.{◌≡◌}
use Rattle.rw_wal_tail.proofs.TakingLemmas.{TakesSome, IsAsBefore}
use Rattle.rw_wal_tail.proofs.taker.take_all.Given as goal

abbrev pub invariant-entries : goal.invariant-entries
invariant-entries g l = record {
  some : TakesSome l.fn.tail l.tail (g.T.Taker.taken l.fn.taker) (g.T.Taker.taken l.taker);
  left : IsAsBefore l.fn.tail l.tail l.counter;
  fixed : g.T.Taker.fixed l.taker ≡ g.T.Taker.fixed l.fn.taker;
}
