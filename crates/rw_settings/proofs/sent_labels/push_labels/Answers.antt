use Rattle.std.proofs.Common.{map, ◌∙◌, sym, ap}
use Rattle.toml.specs.View.{table_view}
use Rattle.rw_settings.specs.SentFields.{field_at}
use Rattle.rw_settings.proofs.KeyLemmas.{key_texts, member_names-entries}
use Rattle.rw_settings.proofs.sent_labels.push_labels.Goals as goal

pub loop-name-init : goal.loop-name-init
loop-name-init c = (
  tt,
  tt,
  rw c.requires
      (ap (map (field_at (table_view c.args.table.now)))
      (sym (member_names-entries c.args.table.now.entries ∙ ap key_texts (sym (c.into_iter-name-iterator.ensures.into_iter_gives ∙ c.keys-name-items.ensures.rest))))),
)
