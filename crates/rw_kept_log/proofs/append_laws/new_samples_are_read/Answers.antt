use Rattle.rw_kept_log.proofs.ReferenceLemmas.{noted_all, samples_read, once_more}
use Rattle.rw_kept_log.proofs.append_laws.new_samples_are_read.Goals as goal

pub returns-clause-defined : goal.returns-clause-defined
returns-clause-defined c = noted_all

pub returns-clause-samples : goal.returns-clause-samples
returns-clause-samples c = samples_read

pub returns-clause-once : goal.returns-clause-once
returns-clause-once c = once_more
