use Rattle.std.proofs.Common.{◌≤◌, length}
use Rattle.rw_write_request.proofs.parts.head_of.Given as goal

abbrev pub invariant-loop-part : goal.invariant-loop-part
invariant-loop-part l = length l.rest ≤ length l.bytes

abbrev pub decreases-loop-part : goal.decreases-loop-part
decreases-loop-part l = length l.rest
