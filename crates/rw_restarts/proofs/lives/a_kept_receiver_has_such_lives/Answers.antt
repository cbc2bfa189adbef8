use Rattle.std.proofs.Common.{sym, subst}
use Rattle.std.specs.Prelude.{ℕ, List}
use Rattle.rw_restarts.specs.Runs.{SenderRun}
use Rattle.rw_restarts.specs.Receivers.{IsReceiverOf}
use Rattle.rw_restarts.specs.WireReceivers.{receiver_events, receiver_state}
use Rattle.rw_restarts.specs.KeptWireReceivers.{wire_state}
use Rattle.rw_restarts.proofs.lives.a_kept_receiver_has_such_lives.Goals as goal

pub returns : goal.returns
returns g c setup workers happened states choice log l runs receiver same =
    c.runs_are_such_lives.ensures setup.limits choice log l runs (receiver_events workers happened) (λ (at : ℕ). receiver_state (wire_state (states at)))
    (subst (λ (rs : List SenderRun). IsReceiverOf setup.limits rs (receiver_events workers happened) (λ (at : ℕ). receiver_state (wire_state (states at)))) (sym same)
    (c.what_comes_over_the_wire_is_such_a_receiver.ensures.receiver setup workers happened (λ (at : ℕ). wire_state (states at))
    (c.a_kept_receiver_is_such_a_receiver.ensures.receiver setup workers happened states receiver)))
