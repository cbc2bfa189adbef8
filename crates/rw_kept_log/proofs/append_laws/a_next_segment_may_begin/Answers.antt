use Rattle.rw_kept_log.proofs.shared.HoldLemmas.{before_last, next_begins}
use Rattle.rw_kept_log.proofs.append_laws.a_next_segment_may_begin.Goals as goal

pub returns-clause-whole : goal.returns-clause-whole
returns-clause-whole c = before_last

pub returns-clause-next : goal.returns-clause-next
returns-clause-next c = next_begins
