-- What goes over a connection, and what its seat is asked.
use Rattle.std.specs.Prelude.{ℕ, List}
use Rattle.rw_endpoint.specs.Coding.{intake_of}
use Rattle.rw_endpoint.specs.Serving.{Serves}
use Rattle.rw_endpoint.specs.declared.serve_end.ServeEnd.{ServeEnd}
use Rattle.rw_head.specs.declared.limits.Limits.{Limits}
use Rattle.rw_head.specs.Head.{State}
use Rattle.rw_recv_head.specs.Seats.{Seated}
use Rattle.rw_receive.specs.Answering.{HasAnsweredSorted}
use Rattle.rw_receive.specs.declared.take_options.TakeOptions.{TakeOptions}

-- the bytes that were read from a connection, those that were written to it, and how it ended
pub record Conversation : Type 0 where
  pub read : List ℕ
  pub written : List ℕ
  pub end : ServeEnd

-- The seat was asked the bodies of the requests in what was read, in order, and nothing else. What
-- was written are the replies with its answers, and to requests that are refused by their heads.
abbrev pub HasAnsweredAll : Limits → TakeOptions → State → Seated → Conversation → Seated → Type 0
HasAnsweredAll limits takes opening old c new =
    Serves limits.path (intake_of limits) (HasAnsweredSorted takes.sorts_labels takes.is_partial opening)
    c.read old c.written new c.end
