use Rattle.std.proofs.Common.{◌<◌, length, arith}
use Rattle.rw_write_request.specs.declared.kind.Kind.TheVariants as kinds
use Rattle.rw_write_request.specs.inner.View.{field_view}
use Rattle.rw_write_request.proofs.Loop.{field-shorter}
use Rattle.rw_write_request.proofs.parts.head_of.Goals as goal

pub loop-part-smaller : goal.loop-part-smaller
loop-part-smaller c = field-shorter kinds.TimeSeries c.loop-part.rest.now (field_view c.in-Ok.part, c.in-Ok.after.now) c.in-Ok.ensures

pub loop-part-preserved : goal.loop-part-preserved
loop-part-preserved c =
    let shorter : length c.in-Ok.after.now < length c.loop-part.rest.now = field-shorter kinds.TimeSeries c.loop-part.rest.now (field_view c.in-Ok.part, c.in-Ok.after.now) c.in-Ok.ensures in
    omega (arith, shorter, c.loop-part.invariant)
