use Rattle.std.proofs.Common.{take}
use Rattle.rw_sorted_labels.specs.Sorting.{SortsMessage}
use Rattle.rw_sorted_labels.proofs.message.are_sorted.Given as goal

abbrev pub invariant-loop-series : goal.invariant-loop-series
invariant-loop-series l = SortsMessage (take l.series-index l.message) (take l.series-index l.message)
