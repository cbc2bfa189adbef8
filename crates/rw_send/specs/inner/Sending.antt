-- Inner definitions beside those of Sending.antt: only invariants, private functions and
-- proofs use them.
use Rattle.std.specs.Prelude.{Option, None, Some, Result, Ok, Err}
use Rattle.rw_shard_core.specs.declared.outcome.Outcome.{Outcome}
use Rattle.rw_shard_core.specs.declared.outcome.Outcome.TheVariants as outcome
use Rattle.rw_text.specs.declared.tool_fault.ToolFault.TheVariants as tool
use Rattle.rw_send.specs.declared.follow_fault.FollowFault.{FollowFault}
use Rattle.rw_send.specs.declared.follow_fault.FollowFault.TheVariants as fault
use Rattle.rw_send.specs.declared.feed_error.FeedError.{FeedError}
use Rattle.rw_send.specs.declared.feed_error.FeedError.TheVariants as error

-- how a shipper's orderly stop is answered
abbrev pub answer_to : Outcome → Result (Unit {0}) FollowFault
answer_to (outcome.Complete end) = Ok tt
answer_to (outcome.Abandoned placed samples) = Err (fault.Tool tool.OutOfMemory)
answer_to (outcome.Damaged f) = Err (fault.Tool (tool.Log f))

-- for this fault the work is stopped at once; a damaged log is shipped as far as it goes
abbrev pub hard_fault : Result (Unit {0}) FeedError → Option FollowFault
hard_fault (Ok u) = None
hard_fault (Err (error.Damaged f)) = None
hard_fault (Err error.Failed) = Some (fault.Tool tool.OutOfMemory)
hard_fault (Err error.Unreadable) = Some (fault.Tool tool.Device)
hard_fault (Err (error.Missing n)) = Some (fault.Missing n)
hard_fault (Err error.Aborted) = Some fault.Stopped

-- how a stop is answered, if that was for this fault
abbrev pub answer_for : Option FollowFault → Outcome → Result (Unit {0}) FollowFault
answer_for None o = answer_to o
answer_for (Some f) o = Err f

-- the answer if work was left without a request to leave it
abbrev pub left_undone : Result (Unit {0}) FollowFault
left_undone = Err (fault.Tool tool.OutOfMemory)
