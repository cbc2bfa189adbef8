-- Notes on what is wrong with settings.
use Rattle.std.specs.Prelude.{◌≡◌, ◌⊎◌, List, fold, Option, Some, None}
use Rattle.rw_settings.specs.Faults.{lesser}
use Rattle.rw_settings.specs.declared.fault.SettingsFault.{SettingsFault}
use Rattle.rw_settings.specs.declared.fault.SettingsFault.TheVariants.{BadRule}
use Rattle.rw_settings.specs.declared.notes.SettingsNote.{SettingsNote}

abbrev pub with_note : Option SettingsFault → SettingsNote → Option SettingsFault
with_note fault note = lesser fault (Some note.fault)

-- the least fault that is noted, if there is any
unfoldable pub noted : List SettingsNote → Option SettingsFault
noted notes = fold with_note None notes

-- the least fault is the one that was judged, or a bad rule was noted besides
abbrev pub IsLeastNoted : Option SettingsFault → Option SettingsFault → Type 0
IsLeastNoted judged least = (least ≡ judged) ⊎ (least ≡ lesser judged (Some BadRule))
