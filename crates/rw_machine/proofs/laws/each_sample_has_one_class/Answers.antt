use Rattle.rw_machine.proofs.shared.Classes.{classes}
use Rattle.rw_machine.proofs.shared.Counts.{counts_filtered}
use Rattle.rw_machine.proofs.shared.Named.{names_refusals}
use Rattle.rw_machine.proofs.laws.each_sample_has_one_class.Goals as goal

pub returns-clause-classes : goal.returns-clause-classes
returns-clause-classes c = classes

pub returns-clause-filtered : goal.returns-clause-filtered
returns-clause-filtered c = counts_filtered

pub returns-clause-refusals : goal.returns-clause-refusals
returns-clause-refusals c = names_refusals
