use Rattle.rw_restarts.proofs.PartLemmas.{next-part-accepted}
use Rattle.rw_restarts.proofs.runs.what_comes_next_is_accepted.Goals as goal

pub returns : goal.returns
returns c = next-part-accepted
