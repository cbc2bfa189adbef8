use Rattle.std.proofs.Common.{refl}
use Rattle.rw_restarts.proofs.ExampleLemmas.{points-of-first, acknowledged-once, runs-are-over, receiver-is, no-gap, can-be-taken}
use Rattle.rw_restarts.proofs.examples.a_small_history_is_allowed.Goals as goal

pub returns-clause-rising : goal.returns-clause-rising
returns-clause-rising c = refl

pub returns-clause-points : goal.returns-clause-points
returns-clause-points c = points-of-first

pub returns-clause-acknowledged : goal.returns-clause-acknowledged
returns-clause-acknowledged c = acknowledged-once

pub returns-clause-runs : goal.returns-clause-runs
returns-clause-runs c = runs-are-over

pub returns-clause-receiver : goal.returns-clause-receiver
returns-clause-receiver c = receiver-is

pub returns-clause-no_gap : goal.returns-clause-no_gap
returns-clause-no_gap c = no-gap

pub returns-clause-can_be_taken : goal.returns-clause-can_be_taken
returns-clause-can_be_taken c = can-be-taken

pub returns-clause-places : goal.returns-clause-places
returns-clause-places c x y z = refl
