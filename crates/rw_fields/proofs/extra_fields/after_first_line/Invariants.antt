use Rattle.std.proofs.Common.{◌≡◌, length}
use Rattle.rw_fields.specs.Fields.{after_first_line}
use Rattle.rw_fields.proofs.extra_fields.after_first_line.Given as goal

abbrev pub invariant-loop-first : goal.invariant-loop-first
invariant-loop-first l = after_first_line l.rest ≡ after_first_line l.fn.text

abbrev pub decreases-loop-first : goal.decreases-loop-first
decreases-loop-first l = length l.rest
