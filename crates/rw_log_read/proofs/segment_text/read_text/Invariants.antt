use Rattle.std.proofs.Common.{◌≡◌, ◌<◌, length, true}
use Rattle.rw_types.specs.declared.transfer.ReadFault.TheVariants.{Failed}
use Rattle.rw_log_read.specs.inner.Reading.{HasFed}
use Rattle.rw_log_read.proofs.segment_text.read_text.Given as goal

abbrev pub invariant-loop : goal.invariant-loop
invariant-loop g l = record {
  fed : HasFed (g.L.Segments.gave l.fn.log) (g.L.Segments.gave l.log) l.fn.tail l.tail (g.T.Taker.taken l.fn.taker) (g.T.Taker.taken l.taker) l.bytes;
  followed : l.is_followed ≡ true → g.L.Segments.is_followed l.log;
  fixed : g.T.Taker.fixed l.taker ≡ g.T.Taker.fixed l.fn.taker;
  room : 0 < length l.chunk;
  later : g.L.Segments.may_fail l.log Failed → g.L.Segments.may_fail l.fn.log Failed;
}
