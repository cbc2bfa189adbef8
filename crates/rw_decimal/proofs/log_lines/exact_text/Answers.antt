use Rattle.std.proofs.Common.{[]}
use Rattle.rw_text.specs.RecordLines.{lines}
use Rattle.rw_decimal.specs.ExactText.{IsExactLine}
use Rattle.rw_decimal.proofs.PartLemmas.{writing_more}
use Rattle.rw_decimal.proofs.log_lines.exact_text.Goals as goal

pub loop-rest-preserved : goal.loop-rest-preserved
loop-rest-preserved c =
    let p = c.in_ok-push_exact_line.ensures in
    writing_more IsExactLine (lines c.args.text.now) [] c.loop-rest.exact.items c.push_exact_line.new.out.items p.0 c.first_line.result.0.now (lines c.loop-rest.rest.now) (lines c.first_line.result.1.now)
    c.loop-rest.invariant c.first_line.ensures.parts p.1 p.2
