use Rattle.std.proofs.Common.{◌≡◌, length}
use Rattle.rw_head.proofs.place.is_same.Given as goal

abbrev pub invariant-loop-left : goal.invariant-loop-left
invariant-loop-left l = l.left ≡ l.right → l.one ≡ l.other

abbrev pub decreases-loop-left : goal.decreases-loop-left
decreases-loop-left l = length l.left
