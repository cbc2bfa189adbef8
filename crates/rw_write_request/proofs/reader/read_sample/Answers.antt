use Rattle.std.proofs.Common.{◌<◌, length, rules}
use Rattle.std.proofs.lemmas.Result.{err_from_is_err_and}
use Rattle.rw_write_request.specs.declared.kind.Kind.TheVariants as kinds
use Rattle.rw_write_request.specs.inner.View.{field_view}
use Rattle.rw_write_request.specs.Read.{sample_step, read_sample}
use Rattle.rw_write_request.proofs.Loop.{goes_on, bad_field, bad_step, done, field-shorter}
use Rattle.rw_write_request.proofs.reader.read_sample.Goals as goal

pub returns-in_err-part : goal.returns-in_err-part
returns-in_err-part c =
    let p = err_from_is_err_and c.from_residual.result c.from_residual.ensures.1 in
    let more : 0 < length c.loop-rest.rest.now = search rules in
    rw (p.1, p.2) (bad_field kinds.Sample sample_step c.loop-rest.sample c.loop-rest.rest.now c.in_err-part.field-0.0 (read_sample c.args.bytes.now) more c.in_err-part.ensures c.loop-rest.invariant)

pub returns-in_err-sample : goal.returns-in_err-sample
returns-in_err-sample c =
    let p = err_from_is_err_and c.from_residual-in_err-sample.result c.from_residual-in_err-sample.ensures.1 in
    let more : 0 < length c.loop-rest.rest.now = search rules in
    rw (p.1, p.2) (bad_step kinds.Sample sample_step c.loop-rest.sample c.loop-rest.rest.now (field_view c.in_ok-part.part) c.in_ok-part.after.now c.in_err-sample.field-0.0 (read_sample c.args.bytes.now) more c.in_ok-part.ensures c.in_err-sample.ensures c.loop-rest.invariant)

pub loop-rest-smaller : goal.loop-rest-smaller
loop-rest-smaller c = field-shorter kinds.Sample c.loop-rest.rest.now (field_view c.in_ok-part.part, c.in_ok-part.after.now) c.in_ok-part.ensures

pub loop-rest-preserved : goal.loop-rest-preserved
loop-rest-preserved c =
    let more : 0 < length c.loop-rest.rest.now = search rules in
    goes_on kinds.Sample sample_step c.loop-rest.sample c.in_ok-sample.sample c.loop-rest.rest.now (field_view c.in_ok-part.part) c.in_ok-part.after.now (read_sample c.args.bytes.now) more c.in_ok-part.ensures c.in_ok-sample.ensures c.loop-rest.invariant

pub returns : goal.returns
returns c = done kinds.Sample sample_step c.loop-rest.sample c.loop-rest.rest.now (read_sample c.args.bytes.now) (search rules) c.loop-rest.invariant
