use Rattle.std.proofs.Common.{cond, Some, None, ◌∙◌, sym, ap}
use Rattle.rw_settings.specs.Faults.{lesser}
use Rattle.rw_settings.specs.Notes.{noted}
use Rattle.rw_settings.specs.declared.fault.SettingsFault.TheVariants.{UnknownKey}
use Rattle.rw_settings.proofs.KeyLemmas.{all_known, has_only-entries}
use Rattle.rw_settings.proofs.notes.note_keys.Goals as goal

pub loop-key-init : goal.loop-key-init
loop-key-init c =
    let keys = has_only-entries _ c.args.table.now.entries ∙ ap (all_known _) (sym (c.into_iter-key-iterator.ensures.into_iter_gives ∙ c.keys-key-items.ensures.rest)) in
    (tt, tt, ap (λ known. lesser (noted c.args.notes.now.items) (cond known None (Some UnknownKey))) (sym keys))
