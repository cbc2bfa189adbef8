use Rattle.std.proofs.Common.{◌≡◌, take, drop}
use Rattle.rw_sorted_labels.specs.Sorting.{SortsMessage}
use Rattle.rw_sorted_labels.proofs.message.sort_each.Given as goal

abbrev pub invariant-loop-series : goal.invariant-loop-series
invariant-loop-series l = record {
  done : SortsMessage (take l.series-index l.initial.message) (take l.series-index l.message);
  rest : drop l.series-index l.message ≡ drop l.series-index l.initial.message;
}
