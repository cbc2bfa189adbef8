use Rattle.std.proofs.Common.{◌≡◌, ◌+◌, take, sum_by}
use Rattle.rw_types.specs.Labels.{label_len}
use Rattle.rw_types.proofs.judge.are_longer_than.Given as goal

abbrev pub invariant-loop-label : goal.invariant-loop-label
invariant-loop-label g l = l.left + sum_by (λ p. label_len (g.L.LabelBytes.shown p)) (take l.label-index l.labels) ≡ l.most
