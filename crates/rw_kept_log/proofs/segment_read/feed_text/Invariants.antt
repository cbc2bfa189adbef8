use Rattle.std.proofs.Common.{◌≡◌, length}
use Rattle.rw_kept_log.proofs.ReadingLemmas.{FedSome}
use Rattle.rw_kept_log.proofs.segment_read.feed_text.Given as goal

abbrev pub invariant-loop-rest : goal.invariant-loop-rest
invariant-loop-rest g l = record {
  some : FedSome l.text l.rest l.tail (g.S.Taker.taken l.fn.sink) (g.S.Taker.taken l.sink);
  fixed : g.S.Taker.fixed l.sink ≡ g.S.Taker.fixed l.fn.sink;
}

abbrev pub decreases-loop-rest : goal.decreases-loop-rest
decreases-loop-rest g l = length l.rest
