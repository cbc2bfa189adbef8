use Rattle.rw_wal_format.proofs.shared.RecordLaws.{sample_record_again}
use Rattle.rw_wal_format.proofs.laws.sample_record_is_read.Goals as goal

pub returns : goal.returns
returns c = sample_record_again
