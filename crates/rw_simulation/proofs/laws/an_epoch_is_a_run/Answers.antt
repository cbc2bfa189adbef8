use Rattle.rw_simulation.specs.Tallies.{past_by}
use Rattle.rw_simulation.proofs.FleetRuns.{fleet-run}
use Rattle.rw_simulation.proofs.laws.an_epoch_is_a_run.Goals as goal

pub returns : goal.returns
returns c g earlier = fleet-run g (past_by earlier)
