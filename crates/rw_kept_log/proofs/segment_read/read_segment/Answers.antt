use Rattle.rw_kept_log.proofs.ReadingLemmas.{reads_segment}
use Rattle.rw_kept_log.proofs.segment_read.read_segment.Goals as goal

pub returns-clause-read : goal.returns-clause-read
returns-clause-read g c =
    reads_segment _ _ _ _ _ _ _ _ _ _ c.in_ok-feed_text.ensures.fed c.next_segment.ensures.next c.next_segment.ensures.taken c.in_ok-fault.ensures.all c.take_all.ensures.pieces c.entries_read.ensures.count c.place_fault.ensures
