use Rattle.std.proofs.Common.{◌<◌, ◌∙◌, length, ap}
use Rattle.rw_wal_format.specs.Types.{record_byte}
use Rattle.rw_wal_tail.proofs.ItemLaws.{not_empty, is_empty, of_series, of_samples, of_other, of_empty}
use Rattle.rw_wal_tail.proofs.record.read_record.Goals as goal

pub returns-then-is_empty-clause-ok : goal.returns-then-is_empty-clause-ok
returns-then-is_empty-clause-ok c = rw c.clear.ensures.items (of_empty c.args.bytes.now (is_empty c.args.bytes.now c.is_empty.result c.is_empty.ensures c.if-is_empty.true))

pub returns-in-Some-Series-clause-ok : goal.returns-in-Some-Series-clause-ok
returns-in-Some-Series-clause-ok c =
    let h : 0 < length c.args.bytes.now = not_empty c.args.bytes.now c.is_empty.result c.is_empty.ensures c.if-is_empty.false in
    rw (of_series c.args.bytes.now h (c.in-Some-Series.ensures.byte ∙ ap record_byte c.in-Some-Series.field-0-is)) c.series.ensures.ok

pub returns-in-Some-Series-clause-err : goal.returns-in-Some-Series-clause-err
returns-in-Some-Series-clause-err c =
    let h : 0 < length c.args.bytes.now = not_empty c.args.bytes.now c.is_empty.result c.is_empty.ensures c.if-is_empty.false in
    rw (of_series c.args.bytes.now h (c.in-Some-Series.ensures.byte ∙ ap record_byte c.in-Some-Series.field-0-is)) c.series.ensures.err

pub returns-in-Some-Samples-clause-ok : goal.returns-in-Some-Samples-clause-ok
returns-in-Some-Samples-clause-ok c =
    let h : 0 < length c.args.bytes.now = not_empty c.args.bytes.now c.is_empty.result c.is_empty.ensures c.if-is_empty.false in
    rw (of_samples c.args.bytes.now h (c.in-Some-Samples.ensures.byte ∙ ap record_byte c.in-Some-Samples.field-0-is)) c.based_samples.ensures.ok

pub returns-in-Some-Samples-clause-err : goal.returns-in-Some-Samples-clause-err
returns-in-Some-Samples-clause-err c =
    let h : 0 < length c.args.bytes.now = not_empty c.args.bytes.now c.is_empty.result c.is_empty.ensures c.if-is_empty.false in
    rw (of_samples c.args.bytes.now h (c.in-Some-Samples.ensures.byte ∙ ap record_byte c.in-Some-Samples.field-0-is)) c.based_samples.ensures.err

pub returns-in-None-clause-ok : goal.returns-in-None-clause-ok
returns-in-None-clause-ok c =
    let h : 0 < length c.args.bytes.now = not_empty c.args.bytes.now c.is_empty.result c.is_empty.ensures c.if-is_empty.false in
    let o = c.from_byte.ensures.none c.in-None.is in
    rw c.clear.ensures.items (of_other c.args.bytes.now h o.0 o.1)
