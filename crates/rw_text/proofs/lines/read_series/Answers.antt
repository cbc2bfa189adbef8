use Rattle.std.proofs.Common.{rules}
use Rattle.rw_text.proofs.shared.LineLemmas.{no_series_number, no_series_labels}
use Rattle.rw_text.proofs.lines.read_series.Goals as goal

pub returns-in_default-read_number-clause-err : goal.returns-in_default-read_number-clause-err
returns-in_default-read_number-clause-err c = λ _. no_series_number c.args.text.now c.in-Some.number.now c.in-Some.braces.now c.in-Some.ensures.0 c.in-Some.ensures.1 c.in_default-read_number.ensures

pub returns-in_err-labels-clause-err : goal.returns-in_err-labels-clause-err
returns-in_err-labels-clause-err c = λ e. no_series_labels c.args.text.now c.in-Some.number.now c.in-Some.braces.now c.in-Some.ensures.0 c.in-Some.ensures.1 (c.in_err-labels.ensures.err (search rules))
