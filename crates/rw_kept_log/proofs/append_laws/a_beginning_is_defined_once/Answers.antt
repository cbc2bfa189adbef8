use Rattle.rw_kept_log.proofs.shared.DefinitionLemmas.{begins_once}
use Rattle.rw_kept_log.proofs.append_laws.a_beginning_is_defined_once.Goals as goal

pub returns : goal.returns
returns c = begins_once
