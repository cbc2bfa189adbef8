use Rattle.std.proofs.Common.{◌<◌, [], length, refl, rules}
use Rattle.std.proofs.lemmas.Result.{err_from_is_err_and}
use Rattle.rw_write_request.specs.declared.kind.Kind.TheVariants as kinds
use Rattle.rw_write_request.specs.inner.View.{field_view}
use Rattle.rw_write_request.specs.Read.{series_step, read_series}
use Rattle.rw_write_request.proofs.Loop.{goes_on, bad_field, bad_step, done, field-shorter}
use Rattle.rw_write_request.proofs.message_check.check_series.Goals as goal

pub loop-rest-init : goal.loop-rest-init
loop-rest-init c = (record { labels = []; samples = [] }, refl)

pub returns-in_err-part : goal.returns-in_err-part
returns-in_err-part c =
    let p = err_from_is_err_and c.from_residual.result c.from_residual.ensures.1 in
    let more : 0 < length c.loop-rest.rest.now = search rules in
    let s = c.loop-rest.invariant in
    rw (p.1, p.2) (bad_field kinds.TimeSeries series_step s.0 c.loop-rest.rest.now c.in_err-part.field-0.0 (read_series c.args.bytes.now) more c.in_err-part.ensures s.1)

pub returns-in_err-check_series_part : goal.returns-in_err-check_series_part
returns-in_err-check_series_part c =
    let p = err_from_is_err_and c.from_residual-in_err-check_series_part.result c.from_residual-in_err-check_series_part.ensures.1 in
    let more : 0 < length c.loop-rest.rest.now = search rules in
    let s = c.loop-rest.invariant in
    rw (p.1, p.2) (bad_step kinds.TimeSeries series_step s.0 c.loop-rest.rest.now (field_view c.in_ok-part.part) c.in_ok-part.after.now c.in_err-check_series_part.field-0.0 (read_series c.args.bytes.now) more c.in_ok-part.ensures (c.in_err-check_series_part.ensures s.0) s.1)

pub loop-rest-smaller : goal.loop-rest-smaller
loop-rest-smaller c = field-shorter kinds.TimeSeries c.loop-rest.rest.now (field_view c.in_ok-part.part, c.in_ok-part.after.now) c.in_ok-part.ensures

pub loop-rest-preserved : goal.loop-rest-preserved
loop-rest-preserved c =
    let more : 0 < length c.loop-rest.rest.now = search rules in
    let s = c.loop-rest.invariant in
    let next = c.in_ok-check_series_part.ensures s.0 in
    (next.0, goes_on kinds.TimeSeries series_step s.0 next.0 c.loop-rest.rest.now (field_view c.in_ok-part.part) c.in_ok-part.after.now (read_series c.args.bytes.now) more c.in_ok-part.ensures next.1 s.1)

pub returns : goal.returns
returns c =
    let s = c.loop-rest.invariant in
    (s.0, done kinds.TimeSeries series_step s.0 c.loop-rest.rest.now (read_series c.args.bytes.now) (search rules) s.1)
