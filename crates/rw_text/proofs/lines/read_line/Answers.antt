use Rattle.rw_text.proofs.shared.LineLemmas.{not_sample, not_series}
use Rattle.rw_text.proofs.lines.read_line.Goals as goal

pub returns-in-None-clause-err : goal.returns-in-None-clause-err
returns-in-None-clause-err c = λ _. not_sample c.args.line.now c.in-Some.rest.now c.in-Some.ensures c.in-None.ensures

pub returns-in-Some-after-clause-err : goal.returns-in-Some-after-clause-err
returns-in-Some-after-clause-err c = λ e. not_series c.args.line.now c.in-Some-after.rest.now c.in-Some-after.ensures (c.read_series.ensures.err e)
