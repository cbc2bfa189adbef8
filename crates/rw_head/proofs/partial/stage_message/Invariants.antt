use Rattle.std.proofs.Common.{◌≡◌, ◌++◌, length}
use Rattle.std.specs.Vec.Iter.{into_iter_items, into_iter_len}
use Rattle.rw_head.specs.Partial.{takeable}
use Rattle.rw_head.specs.inner.Growth.{HoldsNoneRefused}
use Rattle.rw_head.proofs.partial.stage_message.Given as goal

abbrev pub invariant-loop-series : goal.invariant-loop-series
invariant-loop-series l = record {
  kept : l.table.kept ≡ l.initial.table.kept;
  placed : l.table.placed ≡ l.initial.table.placed;
  forgets : l.table.forgets ≡ l.initial.table.forgets;
  within : HoldsNoneRefused l.bounds l.table.staged;
  counted : into_iter_len l.series-iterator ≡ length (into_iter_items l.series-iterator);
  taken : takeable l.bounds l.initial.table.staged l.fn.message ≡ l.taken.items ++ takeable l.bounds l.table.staged (into_iter_items l.series-iterator);
}
