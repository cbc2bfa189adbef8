use Rattle.std.proofs.Common.{◌≡◌, ◌<◌, vec_len}
use Rattle.rw_wal_format.specs.Pieces.{is_marked}
use Rattle.rw_types.specs.declared.transfer.ReadFault.TheVariants.{Failed}
use Rattle.rw_log_read.proofs.shared.LogLemmas.{Going}
use Rattle.rw_log_read.proofs.log.read_all.Given as goal

abbrev pub invariant-loop : goal.invariant-loop
invariant-loop g l = record {
  going : Going (is_marked l.fn.tail.pieces) (g.L.Segments.gave l.fn.log) (g.L.Segments.gave l.log) l.tail (g.T.Taker.taken l.taker.taker) l.rows.items;
  fixed : g.T.Taker.fixed l.taker.taker ≡ g.T.Taker.fixed l.fn.taker.taker;
  room : 0 < vec_len l.chunk;
  later : g.L.Segments.may_fail l.log Failed → g.L.Segments.may_fail l.fn.log Failed;
}
