use Rattle.std.proofs.Common.{◌≡◌, ◌-◌, map, drop}
use Rattle.rw_types.specs.Labels.{are_sorted}
use Rattle.rw_types.proofs.judge.are_sorted.Given as goal

abbrev pub invariant-loop-i : goal.invariant-loop-i
invariant-loop-i g l = are_sorted (map g.L.LabelBytes.shown l.labels) ≡ are_sorted (drop (l.i - 1) (map g.L.LabelBytes.shown l.labels))
