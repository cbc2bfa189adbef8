use Rattle.std.proofs.Common.{◌≡◌, map, cond, Some, None}
use Rattle.toml.specs.View.{table_view}
use Rattle.rw_settings.specs.Faults.{lesser}
use Rattle.rw_settings.specs.Notes.{noted}
use Rattle.rw_settings.specs.Keys.{keys_fault}
use Rattle.rw_settings.specs.inner.Keys.{row_of}
use Rattle.rw_settings.specs.declared.fault.SettingsFault.TheVariants.{UnknownKey}
use Rattle.rw_settings.proofs.KeyLemmas.{all_known}
use Rattle.rw_settings.proofs.notes.note_keys.Given as goal

abbrev pub invariant-loop-key : goal.invariant-loop-key
invariant-loop-key l =
    (goal.iterator-loop-key).can_next l.key-iterator
    × (goal.iterator-loop-key).is_finite l.key-iterator
    × (lesser (noted l.notes.items) (cond (all_known (map row_of l.known) l.key-iterator) None (Some UnknownKey))
    ≡ lesser (noted l.initial.notes.items) (keys_fault (map row_of l.known) (table_view l.table)))
