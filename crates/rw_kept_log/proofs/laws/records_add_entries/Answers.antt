use Rattle.rw_kept_log.proofs.shared.RecordLemmas.{records_added}
use Rattle.rw_kept_log.proofs.laws.records_add_entries.Goals as goal

pub returns : goal.returns
returns c = records_added
