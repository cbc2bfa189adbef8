use Rattle.rw_wal_format.proofs.shared.Growing.{reading-cut, reading-empty}
use Rattle.rw_wal_format.proofs.laws.cuts_do_not_matter.Goals as goal

pub returns-clause-cut : goal.returns-clause-cut
returns-clause-cut c = λ page before after a b. reading-cut page before a b after

pub returns-clause-empty : goal.returns-clause-empty
returns-clause-empty c = reading-empty
