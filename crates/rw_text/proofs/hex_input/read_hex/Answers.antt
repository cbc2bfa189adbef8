use Rattle.std.proofs.Common.{ap, ◌∙◌, sym, Err}
use Rattle.std.specs.List.{before_last}
use Rattle.rw_text.specs.HexText.{bytes_or_line, line_after, is_digit}
use Rattle.rw_text.proofs.HexLineLemmas.{foreign_at, no_foreign}
use Rattle.rw_text.proofs.hex_input.read_hex.Goals as goal

pub returns-in-Some-clause-fault : goal.returns-in-Some-clause-fault
returns-in-Some-clause-fault c =
    let found = c.in-Some.ensures in
    foreign_at _ _ found.0 found.1 found.2 ∙ ap Err (sym c.line_after.ensures)

pub returns-in-Some-2-clause-bytes : goal.returns-in-Some-2-clause-bytes
returns-in-Some-2-clause-bytes c =
    no_foreign _ c.in_default.ensures
    ∙ ap (λ o. bytes_or_line o (line_after (before_last is_digit c.args.text.now))) (sym (rw c.in-Some-2.is at c.in_ok-bytes.ensures))

pub returns-in-None-clause-fault : goal.returns-in-None-clause-fault
returns-in-None-clause-fault c =
    no_foreign _ c.in_default.ensures
    ∙ ap (λ o. bytes_or_line o (line_after (before_last is_digit c.args.text.now))) (sym (rw c.in-None.is at c.in_ok-bytes.ensures))
    ∙ ap Err (sym c.last_digit_line.ensures)
