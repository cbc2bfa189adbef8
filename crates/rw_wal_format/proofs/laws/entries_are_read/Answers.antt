use Rattle.rw_wal_format.proofs.shared.Written.{entries_read}
use Rattle.rw_wal_format.proofs.laws.entries_are_read.Goals as goal

pub returns : goal.returns
returns c = entries_read
