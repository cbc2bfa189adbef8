use Rattle.std.proofs.Common.{length}
use Rattle.rw_head.specs.Store.{held_series}
use Rattle.rw_decimal.specs.DecimalStore.{IsReceivedText}
use Rattle.rw_decimal.proofs.PartLemmas.{Writing}
use Rattle.rw_decimal.proofs.held.push_store.Given as goal

abbrev pub invariant-loop-series : goal.invariant-loop-series
invariant-loop-series l = Writing IsReceivedText (held_series l.fn.head.store) l.fn.out.items l.out.items l.all

abbrev pub decreases-loop-series : goal.decreases-loop-series
decreases-loop-series l = length l.all
