use Rattle.std.proofs.Common.{rules, arith}
use Rattle.rw_log_commands.proofs.LogTextLemmas.{one_len}
use Rattle.rw_log_commands.proofs.log_text.record_len.Goals as goal

pub returns-in_err-rec-clause-err : goal.returns-in_err-rec-clause-err
returns-in_err-rec-clause-err c = λ e. (search rules, c.in_err-rec.ensures.err (search rules))

pub returns-clause-ok : goal.returns-clause-ok
returns-clause-ok c =
    let one = one_len c.args.line.now c.in_ok-rec.rec.items (search rules) c.in_ok-rec.ensures.ok in
    (one.0, one.1, omega (arith, c.len.ensures, one.2))
