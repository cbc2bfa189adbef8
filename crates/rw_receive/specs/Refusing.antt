-- Why labels are refused, as the counters have it.
use Rattle.std.specs.Prelude.{Bool, true, false, ◌||◌, nat_lt, length, Option, None, Some}
use Rattle.rw_head.specs.declared.limits.Limits.{Limits}
use Rattle.rw_metrics.specs.declared.refusals.RefusalReason.{RefusalReason}
use Rattle.rw_metrics.specs.declared.refusals.RefusalReason.TheVariants as reason
use Rattle.rw_types.specs.Labels.{Labels, label_fault, text_len}
use Rattle.rw_types.specs.declared.label_fault.LabelFault.{LabelFault}
use Rattle.rw_types.specs.declared.label_fault.LabelFault.TheVariants.{TooMany, TooLong}

-- too many or too long for any label set: over the limits of every head; a label set may be over
-- those of this one
abbrev pub fault_reason : Option LabelFault → Bool → Option RefusalReason
fault_reason (Some TooMany) is_over = Some reason.Limits
fault_reason (Some TooLong) is_over = Some reason.Limits
fault_reason (Some fault) is_over = Some reason.Labels
fault_reason None true = Some reason.Limits
fault_reason None false = None

-- more labels, or more bytes of names and values
abbrev pub is_over : Limits → Labels → Bool
is_over limits ls =
    nat_lt limits.max_labels (length ls) || nat_lt limits.max_label_bytes (text_len ls)

-- why a head with these limits refuses these labels, if it does
abbrev pub label_reason : Limits → Labels → Option RefusalReason
label_reason limits ls = fault_reason (label_fault limits.names ls) (is_over limits ls)
