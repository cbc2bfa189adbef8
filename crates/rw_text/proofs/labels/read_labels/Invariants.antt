use Rattle.std.proofs.Common.{length}
use Rattle.rw_text.proofs.LabelLemmas.{Underway}
use Rattle.rw_text.proofs.labels.read_labels.Given as goal

abbrev pub invariant-loop-next : goal.invariant-loop-next
invariant-loop-next l = Underway l.text l.reader.labels l.rest

abbrev pub decreases-loop-next : goal.decreases-loop-next
decreases-loop-next l = length l.rest
