use Rattle.std.proofs.Common.{◌≡◌, drop}
use Rattle.rw_inspect.specs.Finding.{name_at}
use Rattle.rw_inspect.proofs.found.name_at.Given as goal

abbrev pub invariant-loop-segment : goal.invariant-loop-segment
invariant-loop-segment l = name_at l.segments l.position ≡ name_at (drop l.segment-index l.segments) l.left
