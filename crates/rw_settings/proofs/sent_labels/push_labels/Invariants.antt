use Rattle.std.proofs.Common.{◌≡◌, ◌++◌, map}
use Rattle.toml.specs.View.{table_view}
use Rattle.rw_settings.specs.SentFields.{field_at, fields_of}
use Rattle.rw_settings.proofs.KeyLemmas.{key_texts}
use Rattle.rw_settings.proofs.sent_labels.push_labels.Given as goal

abbrev pub invariant-loop-name : goal.invariant-loop-name
invariant-loop-name l =
    (goal.iterator-loop-name).can_next l.name-iterator
    × (goal.iterator-loop-name).is_finite l.name-iterator
    × (l.labels ++ map (field_at (table_view l.table)) (key_texts l.name-iterator) ≡ fields_of (table_view l.table))
