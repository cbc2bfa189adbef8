use Rattle.std.proofs.Common.{Err, ◌∙◌, ap}
use Rattle.rw_replay.proofs.log_line.is_record.Goals as goal

pub returns-in-Err-NotOfForm-clause-no : goal.returns-in-Err-NotOfForm-clause-no
returns-in-Err-NotOfForm-clause-no c _ = c.read_record.ensures.err (c.in-Err-NotOfForm.is ∙ ap Err c.in-Err-NotOfForm.field-0-is)
