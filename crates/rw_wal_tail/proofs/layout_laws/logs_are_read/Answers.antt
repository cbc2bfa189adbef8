use Rattle.rw_wal_format.specs.Pieces.{reading}
use Rattle.rw_wal_tail.proofs.LayoutLogs.{log_read, log_laid_out}
use Rattle.rw_wal_tail.proofs.layout_laws.logs_are_read.Goals as goal

pub returns : goal.returns
unfolding reading
returns c = λ page pieces whole place p. (log_laid_out page pieces whole place p, log_read page pieces whole place p)
