use Rattle.std.proofs.Common.{[], ◌∷◌, None, codes}
use Rattle.toml.specs.Data.{get_member}
use Rattle.toml.specs.View.{table_view}
use Rattle.rw_settings.specs.Receiving.{receive_fault}
use Rattle.rw_settings.specs.Keys.{document_keys, keys_fault}
use Rattle.rw_settings.specs.LogTable.{log_fault}
use Rattle.rw_settings.specs.RuleTables.{with_rules_fault}
use Rattle.rw_settings.specs.Sending.{send_fault}
use Rattle.rw_settings.specs.Settings.{document_fault}
use Rattle.rw_settings.specs.Values.{section, list_at, part_fault}
use Rattle.rw_settings.proofs.NoteLemmas.{least_from}
use Rattle.rw_settings.specs.Notes.{noted}
use Rattle.rw_settings.proofs.explain.note_document.Goals as goal

pub returns : goal.returns
unfolding document_fault
returns c =
    let document = table_view c.args.document.now in
    rw (
      c.in_ok-note_log_part.ensures,
      c.in_ok-note_rules_part.ensures,
      c.in_ok-note_receive_part.ensures,
      c.in_ok-note_send_part.ensures,
      c.in_ok-note_keys.ensures,
      c.document_keys.ensures,
    ) (least_from (noted c.args.notes.now.items) (
    keys_fault document_keys document
    ∷ part_fault send_fault (section (get_member (codes "send") document))
    ∷ part_fault receive_fault (section (get_member (codes "receive") document))
    ∷ part_fault (with_rules_fault None) (list_at (get_member (codes "rule") document))
    ∷ part_fault log_fault (section (get_member (codes "log") document))
    ∷ []
    ))
