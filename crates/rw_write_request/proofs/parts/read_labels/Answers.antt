use Rattle.std.proofs.Common.{◌<◌, length, rules}
use Rattle.std.proofs.lemmas.Result.{err_from_is_err_and}
use Rattle.rw_write_request.specs.declared.kind.Kind.TheVariants as kinds
use Rattle.rw_write_request.specs.Texts.{series_of_texts}
use Rattle.rw_write_request.specs.inner.View.{field_view}
use Rattle.rw_write_request.specs.Read.{series_step, read_series}
use Rattle.rw_write_request.proofs.Loop.{goes_on, bad_field, bad_step, done, field-shorter}
use Rattle.rw_write_request.proofs.parts.read_labels.Goals as goal

pub returns-in_err-part-clause-fault : goal.returns-in_err-part-clause-fault
returns-in_err-part-clause-fault c =
    let p = err_from_is_err_and c.from_residual.result c.from_residual.ensures.1 in
    let more : 0 < length c.loop-rest.rest.now = search rules in
    let s = c.loop-rest.invariant in
    rw (p.1, p.2) (λ _. bad_field kinds.TimeSeries series_step (series_of_texts c.loop-rest.labels.items s.0) c.loop-rest.rest.now c.in_err-part.field-0.0 (read_series c.args.bytes.now) more c.in_err-part.ensures s.1)

pub returns-in_err-add_label-clause-fault : goal.returns-in_err-add_label-clause-fault
returns-in_err-add_label-clause-fault c =
    let p = err_from_is_err_and c.from_residual-in_err-add_label.result c.from_residual-in_err-add_label.ensures.1 in
    let more : 0 < length c.loop-rest.rest.now = search rules in
    let s = c.loop-rest.invariant in
    rw (p.1, p.2) (λ ne. bad_step kinds.TimeSeries series_step (series_of_texts c.loop-rest.labels.items s.0) c.loop-rest.rest.now (field_view c.in_ok-part.part) c.in_ok-part.after.now c.in_err-add_label.field-0.0 (read_series c.args.bytes.now) more c.in_ok-part.ensures (c.in_err-add_label.ensures.fault ne s.0) s.1)

pub loop-rest-smaller : goal.loop-rest-smaller
loop-rest-smaller c = field-shorter kinds.TimeSeries c.loop-rest.rest.now (field_view c.in_ok-part.part, c.in_ok-part.after.now) c.in_ok-part.ensures

pub loop-rest-preserved : goal.loop-rest-preserved
loop-rest-preserved c =
    let more : 0 < length c.loop-rest.rest.now = search rules in
    let s = c.loop-rest.invariant in
    let next = c.in_ok-add_label.ensures.found s.0 in
    (next.0, goes_on kinds.TimeSeries series_step (series_of_texts c.loop-rest.labels.items s.0) (series_of_texts c.add_label.new.labels.items next.0) c.loop-rest.rest.now (field_view c.in_ok-part.part) c.in_ok-part.after.now (read_series c.args.bytes.now) more c.in_ok-part.ensures next.1 s.1)

pub returns-clause-found : goal.returns-clause-found
returns-clause-found c =
    let s = c.loop-rest.invariant in
    (s.0, done kinds.TimeSeries series_step (series_of_texts c.loop-rest.labels.items s.0) c.loop-rest.rest.now (read_series c.args.bytes.now) (search rules) s.1)
