use Rattle.rw_machine.proofs.shared.Ids.{one_batch}
use Rattle.rw_machine.proofs.Sent.{never_both}
use Rattle.rw_machine.proofs.shared.Stored.{resolved_is_stored}
use Rattle.rw_machine.proofs.laws.each_batch_has_one_fate.Goals as goal

pub returns-clause-one_batch : goal.returns-clause-one_batch
returns-clause-one_batch c = one_batch

pub returns-clause-one_fate : goal.returns-clause-one_fate
returns-clause-one_fate c = never_both

pub returns-clause-resolved : goal.returns-clause-resolved
returns-clause-resolved c = resolved_is_stored
