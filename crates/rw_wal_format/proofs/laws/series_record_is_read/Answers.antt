use Rattle.rw_wal_format.proofs.shared.RecordLaws.{series_again}
use Rattle.rw_wal_format.proofs.laws.series_record_is_read.Goals as goal

pub returns : goal.returns
returns c = series_again
