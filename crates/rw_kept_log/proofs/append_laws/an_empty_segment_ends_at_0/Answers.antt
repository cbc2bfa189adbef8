use Rattle.rw_kept_log.proofs.shared.HoldLemmas.{ends_at_0}
use Rattle.rw_kept_log.proofs.append_laws.an_empty_segment_ends_at_0.Goals as goal

pub returns : goal.returns
returns c = ends_at_0
