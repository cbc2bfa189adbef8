use Rattle.std.proofs.Common.{◌≡◌, map, take, string_bytes}
use Rattle.std.specs.List.{join_by}
use Rattle.rw_types.specs.Labels.{text_label}
use Rattle.rw_relabel.specs.Rules.{value_of}
use Rattle.rw_relabel.proofs.join.join_values.Given as goal

abbrev pub invariant-loop-i : goal.invariant-loop-i
invariant-loop-i l =
    string_bytes l.text ≡ join_by (value_of (map text_label l.labels)) l.separator (map string_bytes (take l.i l.names))
