use Rattle.std.proofs.Common.{◌≢◌, ◌<◌, length, arith}
use Rattle.rw_write_request.specs.inner.View.{field_view}
use Rattle.rw_write_request.proofs.Loop.{field-shorter}
use Rattle.rw_write_request.proofs.Counts.{Left-start, Left-one, Left-two, Left-other, Left-end}
use Rattle.rw_write_request.proofs.reader.field_counts.Goals as goal

pub loop-part-init : goal.loop-part-init
loop-part-init c = record { bound = omega arith; left = λ fields are. Left-start c.args.kind c.args.bytes.now fields are }

pub loop-part-smaller-in-1 : goal.loop-part-smaller-in-1
loop-part-smaller-in-1 c = field-shorter c.args.kind c.loop-part.rest.now (field_view c.in-Ok.part, c.in-Ok.after.now) c.in-Ok.ensures

pub loop-part-preserved-in-1 : goal.loop-part-preserved-in-1
loop-part-preserved-in-1 c =
    let shorter : length c.in-Ok.after.now < length c.loop-part.rest.now = field-shorter c.args.kind c.loop-part.rest.now (field_view c.in-Ok.part, c.in-Ok.after.now) c.in-Ok.ensures in
    record {
      bound = omega (arith, shorter, c.loop-part.invariant.bound);
      left = λ fields are. Left-one c.args.kind c.loop-part.rest.now c.in-Ok.after.now (field_view c.in-Ok.part) _ _ fields c.in-Ok.ensures c.in-1.is (c.loop-part.invariant.left fields are);
    }

pub loop-part-smaller-in-2 : goal.loop-part-smaller-in-2
loop-part-smaller-in-2 c = field-shorter c.args.kind c.loop-part.rest.now (field_view c.in-Ok.part, c.in-Ok.after.now) c.in-Ok.ensures

pub loop-part-preserved-in-2 : goal.loop-part-preserved-in-2
loop-part-preserved-in-2 c =
    let shorter : length c.in-Ok.after.now < length c.loop-part.rest.now = field-shorter c.args.kind c.loop-part.rest.now (field_view c.in-Ok.part, c.in-Ok.after.now) c.in-Ok.ensures in
    record {
      bound = omega (arith, shorter, c.loop-part.invariant.bound);
      left = λ fields are. Left-two c.args.kind c.loop-part.rest.now c.in-Ok.after.now (field_view c.in-Ok.part) _ _ fields c.in-Ok.ensures c.in-2.is (c.loop-part.invariant.left fields are);
    }

pub loop-part-smaller : goal.loop-part-smaller
loop-part-smaller c = field-shorter c.args.kind c.loop-part.rest.now (field_view c.in-Ok.part, c.in-Ok.after.now) c.in-Ok.ensures

pub loop-part-preserved : goal.loop-part-preserved
loop-part-preserved c =
    let shorter : length c.in-Ok.after.now < length c.loop-part.rest.now = field-shorter c.args.kind c.loop-part.rest.now (field_view c.in-Ok.part, c.in-Ok.after.now) c.in-Ok.ensures in
    let n1 : c.in-Ok.part.number ≢ 1 = omega (arith, c.in_default-number) in
    let n2 : c.in-Ok.part.number ≢ 2 = omega (arith, c.in_default-number) in
    record {
      bound = omega (arith, shorter, c.loop-part.invariant.bound);
      left = λ fields are. Left-other c.args.kind c.loop-part.rest.now c.in-Ok.after.now (field_view c.in-Ok.part) _ _ fields c.in-Ok.ensures n1 n2 (c.loop-part.invariant.left fields are);
    }

pub returns : goal.returns
returns c = λ fields are. Left-end c.args.kind c.loop-part.rest.now _ _ fields c.in_default.field-0 c.in_default.ensures (c.loop-part.invariant.left fields are)
