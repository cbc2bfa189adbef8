use Rattle.rw_restarts.proofs.RelayLemmas.{relay-holds}
use Rattle.rw_restarts.proofs.relay.a_relay_holds_what_the_first_receiver_holds.Goals as goal

pub returns : goal.returns
returns c = relay-holds c.what_is_owed_rises.ensures.same c.many_runs_hold_one_log.ensures.holds
