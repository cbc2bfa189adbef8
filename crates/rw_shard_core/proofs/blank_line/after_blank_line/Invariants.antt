use Rattle.std.proofs.Common.{◌≡◌, length}
use Rattle.rw_shard_core.specs.inner.Requests.{after_blank_line}
use Rattle.rw_shard_core.proofs.blank_line.after_blank_line.Given as goal

abbrev pub invariant-loop-after : goal.invariant-loop-after
invariant-loop-after l = after_blank_line l.rest ≡ after_blank_line l.fn.text

abbrev pub decreases-loop-after : goal.decreases-loop-after
decreases-loop-after l = length l.rest
