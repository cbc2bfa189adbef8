use Rattle.std.proofs.Common.{◌∙◌}
use Rattle.std.proofs.lemmas.Result.{err_from_is_err_and}
use Rattle.rw_head.proofs.shared.GrowthLemmas.{taken_within}
use Rattle.rw_head.proofs.shared.VerdictLemmas.{refused_by, taken_at}
use Rattle.rw_head.proofs.head.stage_all.Goals as goal

pub returns-in_err-stage_lent-clause-staged : goal.returns-in_err-stage_lent-clause-staged
returns-in_err-stage_lent-clause-staged c =
    let p = err_from_is_err_and c.from_residual.result c.from_residual.ensures.1 in
    rw (p.1, p.2) (λ other.
    refused_by c.args.bounds.now c.args.message.now c.loop-series.series-index c.series-item.result c.loop-series.table.staged _ _ c.loop-series-test.true c.series-item.is
    c.loop-series.invariant.staged (c.in_err-stage_lent.ensures.staged other))

pub loop-series-preserved : goal.loop-series-preserved
loop-series-preserved c = record {
  kept = c.in_ok-stage_lent.ensures.kept ∙ c.loop-series.invariant.kept;
  forgets = c.in_ok-stage_lent.ensures.forgets ∙ c.loop-series.invariant.forgets;
  within = taken_within c.args.bounds.now c.series-item.result c.loop-series.table.staged c.stage_lent.new.self.staged c.loop-series.invariant.within c.in_ok-stage_lent.ensures.staged;
  staged = taken_at c.args.bounds.now c.args.message.now c.loop-series.series-index c.series-item.result c.loop-series.table.staged c.stage_lent.new.self.staged _ c.loop-series-test.true c.series-item.is
      c.loop-series.invariant.staged c.in_ok-stage_lent.ensures.staged;
}
