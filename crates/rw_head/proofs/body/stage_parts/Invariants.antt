use Rattle.std.proofs.Common.{◌≡◌, length}
use Rattle.rw_head.specs.inner.Growth.{HoldsNoneRefused}
use Rattle.rw_head.proofs.shared.BodyLemmas.{HasStaged}
use Rattle.rw_head.proofs.body.stage_parts.Given as goal

abbrev pub invariant-loop-rest : goal.invariant-loop-rest
invariant-loop-rest l = record {
  kept : l.table.kept ≡ l.initial.table.kept;
  forgets : l.table.forgets ≡ l.initial.table.forgets;
  within : HoldsNoneRefused l.bounds l.table.staged;
  staged : HasStaged l.bounds l.initial.table.staged l.table.staged l.body l.rest;
}

abbrev pub decreases-loop-rest : goal.decreases-loop-rest
decreases-loop-rest l = length l.rest
