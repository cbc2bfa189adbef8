use Rattle.std.proofs.Common.{◌<◌, length, rules}
use Rattle.std.proofs.lemmas.Result.{err_from_is_err_and}
use Rattle.rw_write_request.specs.declared.kind.Kind.TheVariants as kinds
use Rattle.rw_write_request.specs.inner.View.{field_view}
use Rattle.rw_write_request.specs.Read.{request_step, read}
use Rattle.rw_write_request.proofs.Loop.{goes_on, bad_field, bad_step, done, field-shorter}
use Rattle.rw_write_request.proofs.reader.read_message.Goals as goal

pub returns-in_err-part : goal.returns-in_err-part
returns-in_err-part c =
    let p = err_from_is_err_and c.from_residual-in_err-part.result c.from_residual-in_err-part.ensures.1 in
    let more : 0 < length c.loop-rest.rest.now = search rules in
    rw (p.1, p.2) (λ _. bad_field kinds.WriteRequest request_step c.loop-rest.series.items c.loop-rest.rest.now c.in_err-part.field-0.0 (read c.args.bytes.now) more c.in_err-part.ensures c.loop-rest.invariant)

pub returns-in_err-add_to_message : goal.returns-in_err-add_to_message
returns-in_err-add_to_message c =
    let p = err_from_is_err_and c.from_residual-in_err-add_to_message.result c.from_residual-in_err-add_to_message.ensures.1 in
    let more : 0 < length c.loop-rest.rest.now = search rules in
    rw (p.1, p.2) (λ ne. bad_step kinds.WriteRequest request_step c.loop-rest.series.items c.loop-rest.rest.now (field_view c.in_ok-part.part) c.in_ok-part.after.now c.in_err-add_to_message.field-0.0 (read c.args.bytes.now) more c.in_ok-part.ensures (c.in_err-add_to_message.ensures ne) c.loop-rest.invariant)

pub loop-rest-smaller : goal.loop-rest-smaller
loop-rest-smaller c = field-shorter kinds.WriteRequest c.loop-rest.rest.now (field_view c.in_ok-part.part, c.in_ok-part.after.now) c.in_ok-part.ensures

pub loop-rest-preserved : goal.loop-rest-preserved
loop-rest-preserved c =
    let more : 0 < length c.loop-rest.rest.now = search rules in
    goes_on kinds.WriteRequest request_step c.loop-rest.series.items c.add_to_message.new.message.items c.loop-rest.rest.now (field_view c.in_ok-part.part) c.in_ok-part.after.now (read c.args.bytes.now) more c.in_ok-part.ensures c.in_ok-add_to_message.ensures c.loop-rest.invariant

pub returns : goal.returns
returns c = done kinds.WriteRequest request_step c.loop-rest.series.items c.loop-rest.rest.now (read c.args.bytes.now) (search rules) c.loop-rest.invariant
