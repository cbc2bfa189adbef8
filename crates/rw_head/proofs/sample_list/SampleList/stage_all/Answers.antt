use Rattle.std.proofs.Common.{◌∙◌, arith, w64, FitsSigned, rules}
use Rattle.std.proofs.Math.Facts.{to_z-of_z}
use Rattle.std.proofs.lemmas.Result.{err_from_is_err_and}
use Rattle.rw_head.proofs.shared.OrderLemmas.{refused_at, accepted_at}
use Rattle.rw_head.proofs.sample_list.SampleList.stage_all.Goals as goal

pub returns-in_err-stage-clause-staged : goal.returns-in_err-stage-clause-staged
returns-in_err-stage-clause-staged c =
    let p = err_from_is_err_and c.from_residual.result c.from_residual.ensures.1 in
    rw (p.1, p.2) (λ other.
    let fits : FitsSigned w64 c.sample-item.result.1 = search rules in
    let refused = c.in_err-stage.ensures.staged other in
    (refused.0, refused_at c.args.samples.now c.loop-sample.sample-index c.sample-item.result _ c.loop-sample.self.staged _ (to_z-of_z fits) c.loop-sample-test.true c.sample-item.is c.loop-sample.invariant.staged refused.1))

pub loop-sample-preserved : goal.loop-sample-preserved
loop-sample-preserved c =
    let fits : FitsSigned w64 c.sample-item.result.1 = search rules in
    record {
      grown = omega arith;
      few = omega arith;
      same = λ none. absurd (omega (arith, none));
      gone = c.in_ok-stage.ensures.gone ∙ c.loop-sample.invariant.gone;
      kept = c.in_ok-stage.ensures.kept ∙ c.loop-sample.invariant.kept;
      staged = accepted_at c.args.samples.now c.loop-sample.sample-index c.sample-item.result _ c.loop-sample.self.staged c.stage.new.self.staged _ (to_z-of_z fits) c.loop-sample-test.true c.sample-item.is c.loop-sample.invariant.staged c.in_ok-stage.ensures.staged;
    }
