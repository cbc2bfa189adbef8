use Rattle.rw_kept_log.proofs.shared.AdditionLemmas.{no_sample, named_there}
use Rattle.rw_kept_log.proofs.append_laws.definitions_give_names.Goals as goal

pub returns-clause-none : goal.returns-clause-none
returns-clause-none c = no_sample

pub returns-clause-named : goal.returns-clause-named
returns-clause-named c = named_there
