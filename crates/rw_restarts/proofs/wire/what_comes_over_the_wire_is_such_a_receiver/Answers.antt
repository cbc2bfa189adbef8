use Rattle.rw_restarts.proofs.WireLemmas.{wire-holds, wire-receiver, wire-refuses-none}
use Rattle.rw_restarts.proofs.wire.what_comes_over_the_wire_is_such_a_receiver.Goals as goal

pub returns-clause-receiver : goal.returns-clause-receiver
returns-clause-receiver c = wire-receiver c.an_endpoint_is_such_a_receiver.ensures

pub returns-clause-holds : goal.returns-clause-holds
returns-clause-holds c = wire-holds c.an_endpoint_is_such_a_receiver.ensures c.many_runs_hold_one_log.ensures.holds

pub returns-clause-refuses_none : goal.returns-clause-refuses_none
returns-clause-refuses_none c = wire-refuses-none c.an_endpoint_is_such_a_receiver.ensures c.many_runs_hold_one_log.ensures.refuses_none
