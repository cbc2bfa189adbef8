use Rattle.rw_settings.proofs.LabelLemmas.{set_judged}
use Rattle.rw_settings.proofs.sent_labels.set_of.Goals as goal

pub returns-in-Err-clause-err : goal.returns-in-Err-clause-err
returns-in-Err-clause-err c = set_judged _ _ _ c.in-Err.ensures.err c.fault_of_set.ensures
