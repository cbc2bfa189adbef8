use Rattle.std.proofs.Common.{rules, ap, ◌∙◌, Err}
use Rattle.rw_log_commands.proofs.shared.FillingLemmas.{has_record, record_some, log_took, log_full, not_device}
use Rattle.rw_log_commands.proofs.filled.log_line.Goals as goal

pub unreachable-requires : goal.unreachable-requires
unreachable-requires c = has_record c.args.line.now c.requires.good.0 (search rules) c.requires.good.1 (c.in-Err-NotOfForm.ensures.err (ap Err c.in-Err-NotOfForm.field-0-is))

pub returns-in-Ok-log : goal.returns-in-Ok-log
returns-in-Ok-log c =
    let is = c.in-Ok.ensures.ok in
    log_took c.args.writer.now c.log.new.self c.log.result c.args.line.now c.deref.result.now c.requires.memory (search rules)
    (rw c.deref.ensures.value (record_some c.args.line.now c.in-Ok.rec.items is)) (rw c.deref.ensures.value is) c.log.ensures.refused c.in-Ok-log.is c.in-Ok-log.ensures.ok

pub returns-in-Err-SegmentFull : goal.returns-in-Err-SegmentFull
returns-in-Err-SegmentFull c =
    log_full c.args.writer.now c.log.new.self c.log.result c.args.line.now c.deref.result.now c.requires.memory (search rules) (rw c.deref.ensures.value c.in-Ok.ensures.ok)
    c.log.ensures.refused c.log.ensures.taken (c.in-Err-SegmentFull.is ∙ ap Err c.in-Err-SegmentFull.field-0-is)

pub unreachable-requires-in-Err-Device : goal.unreachable-requires-in-Err-Device
unreachable-requires-in-Err-Device c =
    let is = c.in-Ok.ensures.ok in
    let e = c.in-Err-Device.is ∙ ap Err c.in-Err-Device.field-0-is in
    not_device c.args.writer.now c.log.new.self c.log.result c.args.line.now c.deref.result.now c.requires.memory (rw c.deref.ensures.value (record_some c.args.line.now c.in-Ok.rec.items is))
    (rw c.deref.ensures.value is) c.log.ensures.refused e (c.log.ensures.part e)
