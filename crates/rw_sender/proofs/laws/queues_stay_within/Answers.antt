use Rattle.rw_sender.proofs.WithinLemmas.{within_fresh, within_cut, within_marked}
use Rattle.rw_sender.proofs.laws.queues_stay_within.Goals as goal

pub returns-clause-fresh : goal.returns-clause-fresh
returns-clause-fresh c = λ limit epoch lanes fresh. within_fresh limit lanes (λ k l at. (fresh k l at).2)

pub returns-clause-cut : goal.returns-clause-cut
returns-clause-cut c = within_cut c.cuts_keep_within.ensures

pub returns-clause-marked : goal.returns-clause-marked
returns-clause-marked c = within_marked c.marks_keep_within.ensures
