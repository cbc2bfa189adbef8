use Rattle.std.proofs.Common.{length, get_or, ap}
use Rattle.rw_types.proofs.shared.FittingLemmas.{part_fits, has_room, len_of}
use Rattle.rw_batch.specs.inner.Kept.{field_at}
use Rattle.rw_batch.proofs.FieldLemmas.{number_is}
use Rattle.rw_batch.proofs.body.put_numbered.Goals as goal

pub put_bytes-requires : goal.put_bytes-requires
put_bytes-requires c =
    let i = c.loop-number.number-index in
    let part = part_fits (field_at c.args.fields.now.samples) c.args.numbers.now i (get_or c.args.numbers.now i 0) c.loop-number-test.true (number_is c.args.numbers.now i c.loop-number-test.true) in
    let len = len_of _ _ _ _ _ c.loop-number.invariant.items c.loop-number.out.ok.0 c.args.out.now.ok.0 in
    record { room = has_room _ _ _ _ _ _ _ _ c.requires.room c.loop-number.invariant.capacity part len (ap length c.get.ensures.field) }
