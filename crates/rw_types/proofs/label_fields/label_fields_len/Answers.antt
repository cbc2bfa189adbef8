use Rattle.std.proofs.Common.{◌≤◌, ◌^◌, length, map, arith}
use Rattle.rw_types.specs.Labels.{text_label}
use Rattle.rw_types.specs.LabelFields.{label_field, label_fields}
use Rattle.rw_types.proofs.shared.FittingLemmas.{none_is, viewed_fits}
use Rattle.rw_types.proofs.label_fields.label_fields_len.Goals as goal

pub returns-in_err-field-clause-none : goal.returns-in_err-field-clause-none
returns-in_err-field-clause-none c =
    let part = viewed_fits label_field text_label c.args.labels.now c.loop-name.name-index c.loop-name-item.result c.loop-name-test.true c.loop-name-item.is in
    let field = rw (c.deref.ensures, c.deref-in-loop-name.ensures) at c.in_err-field.ensures.none in
    let long : 2 ^ 64 ≤ length (label_fields (map text_label c.args.labels.now)) = omega (arith, part, field) in
    none_is _ _ long

pub returns-in_err-total-clause-none : goal.returns-in_err-total-clause-none
returns-in_err-total-clause-none c =
    let part = viewed_fits label_field text_label c.args.labels.now c.loop-name.name-index c.loop-name-item.result c.loop-name-test.true c.loop-name-item.is in
    let field = rw (c.deref.ensures, c.deref-in-loop-name.ensures) at c.in_ok-field.ensures.some in
    let long : 2 ^ 64 ≤ length (label_fields (map text_label c.args.labels.now)) = omega (arith, part, field, c.loop-name.invariant, c.in_err-total.ensures) in
    none_is _ _ long
