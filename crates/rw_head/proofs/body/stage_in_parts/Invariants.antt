use Rattle.std.proofs.Common.{◌≡◌, length, map}
use Rattle.rw_types.specs.Labels.{text_label}
use Rattle.rw_head.specs.inner.Growth.{HoldsNoneRefused}
use Rattle.rw_head.proofs.PartLemmas.{HasParts}
use Rattle.rw_head.proofs.body.stage_in_parts.Given as goal

abbrev pub invariant-loop-rest : goal.invariant-loop-rest
invariant-loop-rest l = record {
  kept : l.table.kept ≡ l.fn.table.kept;
  forgets : l.table.forgets ≡ l.fn.table.forgets;
  within : HoldsNoneRefused l.bounds l.table.staged;
  staged : HasParts l.bounds l.fn.table.staged l.table.staged l.bytes l.rest (map text_label l.labels.items);
}

abbrev pub decreases-loop-rest : goal.decreases-loop-rest
decreases-loop-rest l = length l.rest
