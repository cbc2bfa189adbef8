use Rattle.rw_kept_log.proofs.shared.AdditionLemmas.{written_said}
use Rattle.rw_kept_log.proofs.append_laws.what_is_written_is_said.Goals as goal

pub returns : goal.returns
returns c = written_said
