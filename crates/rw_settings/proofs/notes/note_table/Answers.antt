use Rattle.std.proofs.Common.{◌∷◌, map}
use Rattle.toml.specs.View.{table_view}
use Rattle.rw_settings.specs.Keys.{keys_fault, key_fault, table_fault}
use Rattle.rw_settings.specs.inner.Keys.{row_of}
use Rattle.rw_settings.specs.Notes.{noted}
use Rattle.rw_settings.proofs.NoteLemmas.{least_from}
use Rattle.rw_settings.proofs.notes.note_table.Goals as goal

pub returns : goal.returns
unfolding table_fault
returns c =
    let rows = map row_of c.args.keys.now in
    let table = table_view c.args.table.now in
    rw (c.in_ok-note_values.ensures, c.in_ok-note_keys.ensures) (least_from (noted c.args.notes.now.items) (keys_fault rows table ∷ map (key_fault table) rows))
