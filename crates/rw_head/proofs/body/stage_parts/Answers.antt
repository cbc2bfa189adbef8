use Rattle.std.proofs.Common.{◌≡◌, subst, ◌∙◌, rules}
use Rattle.std.specs.Prelude.{IfSome}
use Rattle.std.proofs.lemmas.Result.{err_from_is_err_and}
use Rattle.rw_write_request.specs.Message.{WriteRequest}
use Rattle.rw_write_request.specs.Parts.{read_on, read_on_after}
use Rattle.rw_write_request.specs.Read.{read_series}
use Rattle.rw_head.proofs.shared.BodyLemmas.{one_more, bad_part, all_staged}
use Rattle.rw_head.proofs.shared.GrowthLemmas.{taken_within}
use Rattle.rw_head.proofs.body.stage_parts.Goals as goal

pub returns-in_err-stage_series-clause-staged : goal.returns-in_err-stage_series-clause-staged
returns-in_err-stage_series-clause-staged c =
    let rest = c.loop-rest.rest.now in
    let after = c.in_ok-series.after.now in
    let follows = subst (λ o. IfSome o (λ s. (m : WriteRequest) → read_on m rest ≡ read_on_after m (read_series s.now) after)) c.in-Some.is c.in_ok-series.ensures.series in
    let p = err_from_is_err_and c.from_residual-in_err-stage_series.result c.from_residual-in_err-stage_series.ensures.1 in
    rw (p.1, p.2) (λ other.
    let g = c.in_err-stage_series.ensures.staged other in
    (g.0, bad_part c.args.bounds.now c.args.table.now.staged c.loop-rest.table.staged c.args.body.now rest c.in-Some.bytes.now after c.what_is_read_stays.ensures follows g.1 c.loop-rest.invariant.staged))

pub loop-rest-preserved-in_ok-stage_series : goal.loop-rest-preserved-in_ok-stage_series
loop-rest-preserved-in_ok-stage_series c =
    let rest = c.loop-rest.rest.now in
    let after = c.in_ok-series.after.now in
    let follows = subst (λ o. IfSome o (λ s. (m : WriteRequest) → read_on m rest ≡ read_on_after m (read_series s.now) after)) c.in-Some.is c.in_ok-series.ensures.series in
    let t = c.in_ok-stage_series.ensures.staged in
    record {
      kept = c.in_ok-stage_series.ensures.kept ∙ c.loop-rest.invariant.kept;
      forgets = c.in_ok-stage_series.ensures.forgets ∙ c.loop-rest.invariant.forgets;
      within = taken_within c.args.bounds.now t.0 c.loop-rest.table.staged c.stage_series.new.table.staged c.loop-rest.invariant.within t.2;
      staged = one_more c.args.bounds.now c.args.table.now.staged c.loop-rest.table.staged c.stage_series.new.table.staged c.args.body.now rest c.in-Some.bytes.now after follows t c.loop-rest.invariant.staged;
    }

pub returns-clause-staged : goal.returns-clause-staged
returns-clause-staged c = all_staged c.args.bounds.now c.args.table.now.staged c.loop-rest.table.staged c.args.body.now c.loop-rest.rest.now (search rules) c.loop-rest.invariant.staged
