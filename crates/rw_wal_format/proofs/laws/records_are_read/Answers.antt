use Rattle.rw_wal_format.proofs.shared.Written.{records_read}
use Rattle.rw_wal_format.proofs.laws.records_are_read.Goals as goal

pub returns : goal.returns
returns c = records_read
