use Rattle.std.proofs.Common.{[]}
use Rattle.rw_restarts.proofs.OwedLemmas.{rising-from, floor-end}
use Rattle.rw_restarts.proofs.checkpoints.samples_from_a_time_on_rise_alike.Goals as goal

pub returns-clause-same : goal.returns-clause-same
returns-clause-same c floor ps = rising-from floor [] ps

pub returns-clause-suffix : goal.returns-clause-suffix
returns-clause-suffix c = floor-end
