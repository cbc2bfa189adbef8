use Rattle.std.proofs.Common.{None, fold, map, ◌∙◌, sym, ap}
use Rattle.toml.specs.View.{table_view}
use Rattle.rw_settings.specs.Faults.{lesser}
use Rattle.rw_settings.specs.SentLabels.{label_fault}
use Rattle.rw_settings.proofs.KeyLemmas.{key_texts, member_names-entries}
use Rattle.rw_settings.proofs.sent_labels.least_label_fault.Goals as goal

pub loop-name-init : goal.loop-name-init
loop-name-init c = (
  tt,
  tt,
  ap (λ names. fold lesser None (map (label_fault c.args.names (table_view c.args.table.now)) names))
      (sym (member_names-entries c.args.table.now.entries ∙ ap key_texts (sym (c.into_iter-name-iterator.ensures.into_iter_gives ∙ c.keys-name-items.ensures.rest)))),
)
