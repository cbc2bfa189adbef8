use Rattle.std.proofs.Common.{ℕ}
use Rattle.rw_restarts.specs.KeptWireReceivers.{wire_state}
use Rattle.rw_restarts.proofs.CarriedLemmas.{RequestLaws}
use Rattle.rw_restarts.proofs.KeptWireLemmas.{kept-on-wire, kept-holds, kept-refuses-none}
use Rattle.rw_restarts.proofs.wire.a_kept_receiver_is_such_a_receiver.Goals as goal

pub returns-clause-receiver : goal.returns-clause-receiver
returns-clause-receiver g c setup runs events states =
    let laws : RequestLaws = record {
      requests = c.requests_are_read.ensures.read;
      blocks = c.snappy_requests_are_read.ensures.read;
      long = c.snappy_requests_are_read.ensures.refused;
      untaken = c.snappy_requests_are_read.ensures.untaken;
      short = c.limit_only_refuses.ensures.few;
    } in
    kept-on-wire g.J.Journal.seen g.J.Journal.may_leave g.J.Journal.moment g.J.Journal.left_since g.J.Journal.tears laws c.what_is_left_lies_between.ensures setup runs events states

pub returns-clause-holds : goal.returns-clause-holds
returns-clause-holds g c setup runs events states choice log l =
    let laws : RequestLaws = record {
      requests = c.requests_are_read.ensures.read;
      blocks = c.snappy_requests_are_read.ensures.read;
      long = c.snappy_requests_are_read.ensures.refused;
      untaken = c.snappy_requests_are_read.ensures.untaken;
      short = c.limit_only_refuses.ensures.few;
    } in
    kept-holds g.J.Journal.seen g.J.Journal.may_leave g.J.Journal.moment g.J.Journal.left_since g.J.Journal.tears laws c.what_is_left_lies_between.ensures setup runs events states choice log l
    (c.what_comes_over_the_wire_is_such_a_receiver.ensures.holds setup runs events (λ (at : ℕ). wire_state (states at)) choice log l)

pub returns-clause-refuses_none : goal.returns-clause-refuses_none
returns-clause-refuses_none g c setup runs events states choice log among =
    let laws : RequestLaws = record {
      requests = c.requests_are_read.ensures.read;
      blocks = c.snappy_requests_are_read.ensures.read;
      long = c.snappy_requests_are_read.ensures.refused;
      untaken = c.snappy_requests_are_read.ensures.untaken;
      short = c.limit_only_refuses.ensures.few;
    } in
    kept-refuses-none g.J.Journal.seen g.J.Journal.may_leave g.J.Journal.moment g.J.Journal.left_since g.J.Journal.tears laws c.what_is_left_lies_between.ensures setup runs events states choice log among
    (c.what_comes_over_the_wire_is_such_a_receiver.ensures.refuses_none setup runs events (λ (at : ℕ). wire_state (states at)) choice log among)
