use Rattle.std.proofs.Common.{[], ◌∷◌}
use Rattle.std.specs.FinMap.{empty}
use Rattle.rw_restarts.specs.Examples.{first}
use Rattle.rw_restarts.specs.WireExamples as wire
use Rattle.rw_restarts.specs.WireReceivers.{receiver_events, receiver_state}
use Rattle.rw_restarts.proofs.ExampleLemmas.{list_is}
use Rattle.rw_restarts.proofs.WireExampleLemmas.{steps-allowed, wire-receiver-is, taken-by, all-short}
use Rattle.rw_restarts.proofs.examples.a_small_history_over_the_wire_is_allowed.Goals as goal

pub returns-clause-steps : goal.returns-clause-steps
returns-clause-steps c = steps-allowed c.canonical_is_read.ensures

pub returns-clause-receiver : goal.returns-clause-receiver
returns-clause-receiver c = wire-receiver-is c.canonical_is_read.ensures

pub returns-clause-can_be_taken : goal.returns-clause-can_be_taken
returns-clause-can_be_taken c worker shared = taken-by c.canonical_is_read.ensures worker shared (receiver_events (wire.run worker shared ∷ []) wire.events) (λ at. receiver_state (wire.states at))

pub returns-clause-short : goal.returns-clause-short
returns-clause-short c worker shared p w x m is at only = all-short c.canonical_is_read.ensures worker shared p w x is

pub returns-clause-held : goal.returns-clause-held
returns-clause-held c = list_is (first ∷ []) empty
