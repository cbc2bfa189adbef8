use Rattle.std.proofs.Common.{◌∙◌, sym, ap}
use Rattle.rw_settings.proofs.KeyLemmas.{all_known, has_only-entries}
use Rattle.rw_settings.proofs.table_faults.has_only_keys.Goals as goal

pub loop-key-init : goal.loop-key-init
loop-key-init c = (
  tt,
  tt,
  has_only-entries _ c.args.table.now.entries
      ∙ ap (all_known _) (sym (c.into_iter-key-iterator.ensures.into_iter_gives ∙ c.keys-key-items.ensures.rest)),
)
