use Rattle.std.proofs.Common.{◌≡◌, fold, map, Some}
use Rattle.toml.specs.View.{table_view}
use Rattle.rw_settings.specs.Faults.{lesser}
use Rattle.rw_settings.specs.SentFields.{field_fault, fields_fault}
use Rattle.rw_settings.proofs.KeyLemmas.{key_texts}
use Rattle.rw_settings.proofs.sent_fields.least_field_fault.Given as goal

abbrev pub invariant-loop-name : goal.invariant-loop-name
invariant-loop-name l =
    (goal.iterator-loop-name).can_next l.name-iterator
    × (goal.iterator-loop-name).is_finite l.name-iterator
    × (fold lesser l.worst (map (field_fault (table_view l.table)) (key_texts l.name-iterator))
    ≡ fields_fault (Some (table_view l.table)))
