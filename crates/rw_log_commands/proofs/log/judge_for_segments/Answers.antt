use Rattle.std.proofs.Common.{rules}
use Rattle.rw_log_commands.proofs.log.judge_for_segments.Goals as goal

pub returns-clause-ok : goal.returns-clause-ok
returns-clause-ok c =
    let judged = c.in_ok-longest.ensures.ok in
    record { records = judged.0; good = judged.1; fits = search rules }
