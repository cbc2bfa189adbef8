use Rattle.std.proofs.Common.{refl}
use Rattle.rw_types.specs.Labels.{text_label}
use Rattle.rw_types.specs.LabelFields.{label_field}
use Rattle.rw_types.proofs.shared.FittingLemmas.{viewed_fits, has_room, len_of}
use Rattle.rw_types.proofs.label_fields.put_label_fields.Goals as goal

pub put_label_field-requires : goal.put_label_field-requires
put_label_field-requires c =
    let part = viewed_fits label_field text_label c.args.labels.now c.loop-name.name-index c.loop-name-item.result c.loop-name-test.true c.loop-name-item.is in
    let len = len_of _ _ _ _ _ c.loop-name.invariant.items c.loop-name.out.ok.0 c.args.out.now.ok.0 in
    record { room = rw (c.deref.ensures, c.deref-in-loop-name.ensures) (has_room _ _ _ _ _ _ _ _ c.requires.room c.loop-name.invariant.capacity part len refl) }
