use Rattle.std.proofs.Common.{rules}
use Rattle.rw_log_commands.proofs.LogTextLemmas.{judged_more}
use Rattle.rw_log_commands.proofs.log_text.judge.Goals as goal

pub loop-rest-preserved : goal.loop-rest-preserved
loop-rest-preserved c =
    judged_more c.args.text.now c.loop-rest.rest.now c.loop-rest.number c.loop-rest.longest c.first_line.result.0.now c.first_line.result.1.now c.in-Ok.len c.max-longest.result
    c.loop-rest.invariant c.first_line.ensures.parts c.first_line.ensures.shorter c.in-Ok.ensures.ok (search rules)
