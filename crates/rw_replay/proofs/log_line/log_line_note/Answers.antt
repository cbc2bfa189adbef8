use Rattle.std.proofs.Common.{Ok, ap}
use Rattle.rw_replay.proofs.log_line.log_line_note.Goals as goal

pub returns : goal.returns
returns c = c.in_ok-is_record.ensures.no (ap Ok c.if-branch.false)
