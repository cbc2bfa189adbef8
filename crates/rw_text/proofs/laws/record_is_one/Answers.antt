use Rattle.rw_text.proofs.shared.RecordLemmas.{record_one}
use Rattle.rw_text.proofs.laws.record_is_one.Goals as goal

pub returns : goal.returns
returns c = record_one
