-- The answer of a run, without the place of a fault of the log.
use Rattle.std.specs.Prelude.{Result, Ok, Err}
use Rattle.rw_send.specs.declared.follow_fault.FollowFault.{FollowFault}
use Rattle.rw_send.specs.declared.follow_fault.RunFault.{RunFault}

abbrev pub answer_of : Result (Unit {0}) RunFault → Result (Unit {0}) FollowFault
answer_of (Ok u) = Ok u
answer_of (Err e) = Err e.fault
