use Rattle.std.proofs.Common.{refl, arith, false}
use Rattle.rw_wal_format.specs.Laws.{log_all, reading_of_records}
use Rattle.rw_wal_format.proofs.shared.Written.{segment_read}
use Rattle.rw_wal_tail.specs.Places.{stop_offset}
use Rattle.rw_wal_tail.proofs.LayoutWriting.{segment_both_ways}
use Rattle.rw_wal_tail.proofs.layout_laws.written_records_are_laid_out.Goals as goal

pub returns : goal.returns
returns c = λ page records p q are.
    (stop_offset page (log_all page 0 records), (segment_both_ways false page (log_all page 0 records) (reading_of_records records) (stop_offset page (log_all page 0 records)) (omega arith)).0 (segment_read page records p q are, refl))
