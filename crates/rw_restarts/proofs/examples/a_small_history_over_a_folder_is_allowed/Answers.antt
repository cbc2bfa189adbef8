use Rattle.std.proofs.Common.{[], ◌∷◌}
use Rattle.std.specs.FinMap.{empty}
use Rattle.rw_restarts.specs.Examples.{first}
use Rattle.rw_restarts.specs.KeptExamples as kept
use Rattle.rw_restarts.specs.KeptWireReceivers.{wire_state}
use Rattle.rw_restarts.specs.WireExamples as wire
use Rattle.rw_restarts.specs.WireReceivers.{receiver_events, receiver_state}
use Rattle.rw_restarts.proofs.WireExampleLemmas.{taken-by}
use Rattle.rw_restarts.proofs.ExampleLemmas.{list_is}
use Rattle.rw_restarts.proofs.KeptExampleLemmas.{kept-receiver-is}
use Rattle.rw_restarts.proofs.examples.a_small_history_over_a_folder_is_allowed.Goals as goal

pub returns-clause-receiver : goal.returns-clause-receiver
returns-clause-receiver c = kept-receiver-is c.canonical_is_read.ensures c.requests_are_read.ensures.read

pub returns-clause-can_be_taken : goal.returns-clause-can_be_taken
returns-clause-can_be_taken c worker shared = taken-by c.canonical_is_read.ensures worker shared (receiver_events (wire.run worker shared ∷ []) kept.events) (λ at. receiver_state (wire_state (kept.states at)))

pub returns-clause-held : goal.returns-clause-held
returns-clause-held c = list_is (first ∷ []) empty
