use Rattle.rw_wal_format.proofs.shared.Written.{log_all-append}
use Rattle.rw_wal_format.proofs.laws.one_more_record.Goals as goal

pub returns : goal.returns
returns c = log_all-append
