use Rattle.std.proofs.Common.{◌≡◌, ◌++◌, drop, map}
use Rattle.rw_types.specs.Labels.{text_label}
use Rattle.rw_head.specs.Partial.{held_with, taken_samples}
use Rattle.rw_head.specs.inner.Growth.{HoldsNoneRefused}
use Rattle.rw_head.proofs.partial.stage_each.Given as goal

abbrev pub invariant-loop-sample : goal.invariant-loop-sample
invariant-loop-sample l = record {
  kept : l.table.kept ≡ l.initial.table.kept;
  placed : l.table.placed ≡ l.initial.table.placed;
  forgets : l.table.forgets ≡ l.initial.table.forgets;
  within : HoldsNoneRefused l.bounds l.table.staged;
  staged : held_with l.bounds l.initial.table.staged (map text_label l.labels) l.samples ≡ held_with l.bounds l.table.staged (map text_label l.labels) (drop l.sample-index l.samples);
  taken : l.initial.into.items ++ taken_samples l.bounds l.initial.table.staged (map text_label l.labels) l.samples ≡ l.into.items ++ taken_samples l.bounds l.table.staged (map text_label l.labels) (drop l.sample-index l.samples);
}
