use Rattle.std.proofs.Common.{◌≡◌, fold, map, Some}
use Rattle.toml.specs.View.{table_view}
use Rattle.rw_settings.specs.Faults.{lesser}
use Rattle.rw_settings.specs.SentLabels.{label_fault, labels_fault}
use Rattle.rw_settings.proofs.KeyLemmas.{key_texts}
use Rattle.rw_settings.proofs.sent_labels.least_label_fault.Given as goal

abbrev pub invariant-loop-name : goal.invariant-loop-name
invariant-loop-name l =
    (goal.iterator-loop-name).can_next l.name-iterator
    × (goal.iterator-loop-name).is_finite l.name-iterator
    × (fold lesser l.worst (map (label_fault l.names (table_view l.table)) (key_texts l.name-iterator))
    ≡ labels_fault l.names (Some (table_view l.table)))
