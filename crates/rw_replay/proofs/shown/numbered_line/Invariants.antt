use Rattle.std.proofs.Common.{◌≡◌, ◌-◌, length, slice_get}
use Rattle.rw_text.specs.RecordLines.{lines}
use Rattle.rw_replay.proofs.shown.numbered_line.Given as goal

abbrev pub invariant-loop-rest : goal.invariant-loop-rest
invariant-loop-rest l = slice_get (lines l.text) (l.number - 1) ≡ slice_get (lines l.rest) (l.left - 1)

abbrev pub decreases-loop-rest : goal.decreases-loop-rest
decreases-loop-rest l = length l.rest
