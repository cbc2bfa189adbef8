use Rattle.rw_wal_format.proofs.shared.SeriesRows.{labels_of-append}
use Rattle.rw_wal_format.proofs.laws.labels_stay.Goals as goal

pub returns : goal.returns
returns c = labels_of-append
