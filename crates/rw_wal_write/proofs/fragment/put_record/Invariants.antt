use Rattle.std.proofs.Common.{◌-◌, ◌^◌}
use Rattle.rw_wal_format.specs.Pieces.{page_size}
use Rattle.rw_wal_format.specs.Writing.{log_bytes}
use Rattle.rw_wal_write.proofs.Underway.{Underway}
use Rattle.rw_wal_write.proofs.fragment.put_record.Given as goal

abbrev pub invariant-loop-rest : goal.invariant-loop-rest
invariant-loop-rest g l =
    Underway g.W.Sink.contents g.W.Sink.has_failed g.W.Sink.room l.fn.sink l.sink l.fn.offset l.at l.goes_on l.rest (log_bytes page_size l.fn.offset l.fn.rec)

abbrev pub decreases-loop-rest : goal.decreases-loop-rest
decreases-loop-rest g l = 2 ^ 33 - l.at
