use Rattle.std.proofs.Common.{◌≡◌, take}
use Rattle.rw_inspect.specs.Sizes.{sizes_in}
use Rattle.rw_inspect.proofs.sizes.sizes_in.Given as goal

abbrev pub invariant-loop-segment : goal.invariant-loop-segment
invariant-loop-segment l = l.sizes ≡ sizes_in (take l.segment-index l.segments)
