use Rattle.rw_wal_format.proofs.shared.Growing.{reading-append}
use Rattle.rw_wal_format.proofs.laws.reading_goes_on.Goals as goal

pub returns : goal.returns
returns c = reading-append
