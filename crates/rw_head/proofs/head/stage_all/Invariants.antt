use Rattle.std.proofs.Common.{◌≡◌, drop, Ok}
use Rattle.rw_head.specs.inner.Growth.{HoldsNoneRefused}
use Rattle.rw_head.specs.Verdicts.{taken_all}
use Rattle.rw_head.proofs.head.stage_all.Given as goal

abbrev pub invariant-loop-series : goal.invariant-loop-series
invariant-loop-series l = record {
  kept : l.table.kept ≡ l.initial.table.kept;
  forgets : l.table.forgets ≡ l.initial.table.forgets;
  within : HoldsNoneRefused l.bounds l.table.staged;
  staged : taken_all l.bounds (Ok l.initial.table.staged) l.message ≡ taken_all l.bounds (Ok l.table.staged) (drop l.series-index l.message);
}
