use Rattle.std.proofs.Common.{◌<◌, ◌∙◌, length, is_some, ap, sym}
use Rattle.rw_wal_format.specs.Types.{record_byte}
use Rattle.rw_wal_tail.proofs.ItemLaws.{not_empty, is_empty, of_series, of_samples, of_other, of_empty}
use Rattle.rw_wal_tail.proofs.form.is_record.Goals as goal

pub returns-then-is_empty : goal.returns-then-is_empty
returns-then-is_empty c = ap is_some (sym (of_empty c.args.bytes.now (is_empty c.args.bytes.now c.is_empty.result c.is_empty.ensures c.if-is_empty.true)))

pub returns-in-Some-Series : goal.returns-in-Some-Series
returns-in-Some-Series c =
    let h : 0 < length c.args.bytes.now = not_empty c.args.bytes.now c.is_empty.result c.is_empty.ensures c.if-is_empty.false in
    rw (of_series c.args.bytes.now h (c.in-Some-Series.ensures.byte ∙ ap record_byte c.in-Some-Series.field-0-is)) c.are_definitions.ensures

pub returns-in-Some-Samples : goal.returns-in-Some-Samples
returns-in-Some-Samples c =
    let h : 0 < length c.args.bytes.now = not_empty c.args.bytes.now c.is_empty.result c.is_empty.ensures c.if-is_empty.false in
    rw (of_samples c.args.bytes.now h (c.in-Some-Samples.ensures.byte ∙ ap record_byte c.in-Some-Samples.field-0-is)) c.are_based_samples.ensures

pub returns-in-None : goal.returns-in-None
returns-in-None c =
    let h : 0 < length c.args.bytes.now = not_empty c.args.bytes.now c.is_empty.result c.is_empty.ensures c.if-is_empty.false in
    let o = c.from_byte.ensures.none c.in-None.is in
    ap is_some (sym (of_other c.args.bytes.now h o.0 o.1))
