use Rattle.std.proofs.Common.{Ok, ap}
use Rattle.rw_replay.proofs.script_line.script_line_note.Goals as goal

pub returns : goal.returns
returns c = c.in_ok-is_event.ensures.no (ap Ok c.if-branch.false)
