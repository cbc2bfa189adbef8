use Rattle.std.proofs.Common.{refl}
use Rattle.rw_write_request.specs.Canon.{series_field}
use Rattle.rw_types.proofs.shared.FittingLemmas.{part_fits, has_room, len_of}
use Rattle.rw_write_request.proofs.writer.put_all_series.Goals as goal

pub put_series_field-requires : goal.put_series_field-requires
put_series_field-requires c =
    let part = part_fits series_field c.args.list.now c.loop-s.s-index c.s-item.result c.loop-s-test.true c.s-item.is in
    let len = len_of _ _ _ _ _ c.loop-s.invariant.items c.loop-s.out.ok.0 c.args.out.now.ok.0 in
    record { room = has_room _ _ _ _ _ _ _ _ c.requires.room c.loop-s.invariant.capacity part len refl }
