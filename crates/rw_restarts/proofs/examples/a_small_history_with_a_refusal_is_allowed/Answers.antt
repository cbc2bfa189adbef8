use Rattle.std.proofs.Common.{[], ◌∷◌}
use Rattle.std.specs.FinMap.{empty}
use Rattle.rw_restarts.specs.Examples.{first}
use Rattle.rw_restarts.proofs.ExampleLemmas.{list_is}
use Rattle.rw_restarts.proofs.RefusedExampleLemmas.{refused-receiver-is, sends-first, first-has-no-gap, refused-has-gap}
use Rattle.rw_restarts.proofs.examples.a_small_history_with_a_refusal_is_allowed.Goals as goal

pub returns-clause-receiver : goal.returns-clause-receiver
returns-clause-receiver c = refused-receiver-is

pub returns-clause-sends : goal.returns-clause-sends
returns-clause-sends c = sends-first

pub returns-clause-gap : goal.returns-clause-gap
returns-clause-gap c h = refused-has-gap h.unrefused

pub returns-clause-no_gap : goal.returns-clause-no_gap
returns-clause-no_gap c = first-has-no-gap

pub returns-clause-held : goal.returns-clause-held
returns-clause-held c = list_is (first ∷ []) empty
