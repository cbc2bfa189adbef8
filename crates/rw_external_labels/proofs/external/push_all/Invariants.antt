use Rattle.std.proofs.Common.{◌≡◌, ◌++◌, map, take}
use Rattle.rw_types.specs.Labels.{bytes_label}
use Rattle.rw_external_labels.proofs.external.push_all.Given as goal

abbrev pub invariant-loop-name : goal.invariant-loop-name
invariant-loop-name l = l.labels ≡ l.initial.labels ++ map bytes_label (take l.name-index l.more)
