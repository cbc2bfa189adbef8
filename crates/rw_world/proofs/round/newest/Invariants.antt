use Rattle.std.proofs.Common.{◌≡◌, ◌≤◌, length, take}
use Rattle.rw_machine.specs.Settling.{newest_from}
use Rattle.rw_world.proofs.round.newest.Given as goal

abbrev pub invariant-loop-k : goal.invariant-loop-k
invariant-loop-k l = (l.k ≤ length l.requests) × (newest_from l.id 0 l.requests 0 ≡ newest_from l.id 0 (take l.k l.requests) 0)

abbrev pub decreases-loop-k : goal.decreases-loop-k
decreases-loop-k l = l.k
