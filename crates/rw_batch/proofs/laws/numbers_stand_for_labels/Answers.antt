use Rattle.rw_batch.proofs.shared.NumberLemmas.{stands_for_own, labels_stay}
use Rattle.rw_batch.proofs.laws.numbers_stand_for_labels.Goals as goal

pub returns-clause-stands : goal.returns-clause-stands
returns-clause-stands c = stands_for_own

pub returns-clause-stays : goal.returns-clause-stays
returns-clause-stays c = labels_stay
