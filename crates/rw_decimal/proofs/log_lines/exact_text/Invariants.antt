use Rattle.std.proofs.Common.{[], length}
use Rattle.rw_text.specs.RecordLines.{lines}
use Rattle.rw_decimal.specs.ExactText.{IsExactLine}
use Rattle.rw_decimal.proofs.PartLemmas.{Writing}
use Rattle.rw_decimal.proofs.log_lines.exact_text.Given as goal

abbrev pub invariant-loop-rest : goal.invariant-loop-rest
invariant-loop-rest l = Writing IsExactLine (lines l.text) [] l.exact.items (lines l.rest)

abbrev pub decreases-loop-rest : goal.decreases-loop-rest
decreases-loop-rest l = length l.rest
