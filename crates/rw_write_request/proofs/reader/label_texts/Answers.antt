use Rattle.std.proofs.Common.{◌<◌, length, rules}
use Rattle.std.proofs.lemmas.Result.{err_from_is_err_and}
use Rattle.rw_write_request.specs.declared.kind.Kind.TheVariants as kinds
use Rattle.rw_write_request.specs.inner.View.{field_view}
use Rattle.rw_write_request.specs.Read.{label_step, read_label}
use Rattle.rw_write_request.proofs.Loop.{goes_on, bad_field, bad_step, done, field-shorter}
use Rattle.rw_write_request.proofs.reader.label_texts.Goals as goal

pub returns-in_err-part : goal.returns-in_err-part
returns-in_err-part c =
    let p = err_from_is_err_and c.from_residual.result c.from_residual.ensures.1 in
    let more : 0 < length c.loop-rest.rest.now = search rules in
    rw (p.1, p.2) (bad_field kinds.Label label_step (c.loop-rest.label.0.now, c.loop-rest.label.1.now) c.loop-rest.rest.now c.in_err-part.field-0.0 (read_label c.args.bytes.now) more c.in_err-part.ensures c.loop-rest.invariant)

pub returns-in_err-label : goal.returns-in_err-label
returns-in_err-label c =
    let p = err_from_is_err_and c.from_residual-in_err-label.result c.from_residual-in_err-label.ensures.1 in
    let more : 0 < length c.loop-rest.rest.now = search rules in
    rw (p.1, p.2) (bad_step kinds.Label label_step (c.loop-rest.label.0.now, c.loop-rest.label.1.now) c.loop-rest.rest.now (field_view c.in_ok-part.part) c.in_ok-part.after.now c.in_err-label.field-0.0 (read_label c.args.bytes.now) more c.in_ok-part.ensures c.in_err-label.ensures c.loop-rest.invariant)

pub loop-rest-smaller : goal.loop-rest-smaller
loop-rest-smaller c = field-shorter kinds.Label c.loop-rest.rest.now (field_view c.in_ok-part.part, c.in_ok-part.after.now) c.in_ok-part.ensures

pub loop-rest-preserved : goal.loop-rest-preserved
loop-rest-preserved c =
    let more : 0 < length c.loop-rest.rest.now = search rules in
    goes_on kinds.Label label_step (c.loop-rest.label.0.now, c.loop-rest.label.1.now) (c.in_ok-label.label.0.now, c.in_ok-label.label.1.now) c.loop-rest.rest.now (field_view c.in_ok-part.part) c.in_ok-part.after.now (read_label c.args.bytes.now) more c.in_ok-part.ensures c.in_ok-label.ensures c.loop-rest.invariant

pub returns : goal.returns
returns c = let e = done kinds.Label label_step (c.loop-rest.label.0.now, c.loop-rest.label.1.now) c.loop-rest.rest.now (read_label c.args.bytes.now) (search rules) c.loop-rest.invariant in search (rules, e)
