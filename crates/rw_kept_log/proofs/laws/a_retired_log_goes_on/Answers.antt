use Rattle.rw_kept_log.proofs.shared.CheckpointLemmas.{retired_definitions, retired_log, retired_noted, retired_samples}
use Rattle.rw_kept_log.proofs.laws.a_retired_log_goes_on.Goals as goal

pub returns-clause-samples : goal.returns-clause-samples
returns-clause-samples c page n segments texts l is = retired_samples page n segments texts is l

pub returns-clause-definitions : goal.returns-clause-definitions
returns-clause-definitions c = retired_definitions

pub returns-clause-noted : goal.returns-clause-noted
returns-clause-noted c page n segments texts t is = retired_noted page n segments texts is t

pub returns-clause-entries : goal.returns-clause-entries
returns-clause-entries c = retired_log
