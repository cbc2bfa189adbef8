use Rattle.std.proofs.Common.{rules}
use Rattle.rw_log_commands.proofs.shared.FillingLemmas.{filled_all, overfull}
use Rattle.rw_log_commands.proofs.log.one_segment.Goals as goal

pub returns-clause-ok : goal.returns-clause-ok
returns-clause-ok c = filled_all c.args.pages c.args.text.now c.in_ok-filled.filled.segment.items c.in_ok-filled.filled.rest.now c.in_ok-filled.ensures (search rules)

pub returns-then-not-is_empty-clause-err : goal.returns-then-not-is_empty-clause-err
returns-then-not-is_empty-clause-err c =
    let judged = c.in_ok-judge.ensures.ok in
    overfull c.args.pages c.args.text.now c.in_ok-filled.filled.segment.items c.in_ok-filled.filled.rest.now c.in_ok-filled.ensures (search rules) (judged.0, judged.1)
