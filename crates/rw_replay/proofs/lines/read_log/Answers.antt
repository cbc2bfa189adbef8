use Rattle.std.proofs.Common.{rules}
use Rattle.rw_replay.proofs.lines.read_log.Goals as goal

pub returns-in_err-rec-clause-err : goal.returns-in_err-rec-clause-err
returns-in_err-rec-clause-err c = λ e. c.in_err-rec.ensures.err (search rules)
