use Rattle.rw_wal_tail.proofs.LayoutWriting.{segment_both_ways}
use Rattle.rw_wal_tail.proofs.layout_laws.segments_are_read.Goals as goal

pub returns : goal.returns
returns c = segment_both_ways
