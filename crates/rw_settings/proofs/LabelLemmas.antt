-- Labels that are no label set.
use Rattle.std.proofs.Common.{◌≡◌, ◌⊎◌, inl, inr, Option, Some, None, ap, ◌∙◌}
use Rattle.std.specs.Option.{MatchOption}
use Rattle.rw_types.specs.declared.label_fault.LabelFault.{LabelFault}
use Rattle.rw_types.specs.declared.label_fault.LabelFault.TheVariants as label
use Rattle.rw_settings.specs.SentLabels.{fault_of_set}
use Rattle.rw_settings.specs.declared.fault.SettingsFault.{SettingsFault}
use Rattle.rw_settings.specs.declared.fault.SettingsFault.TheVariants.{OutOfMemory, OutOfRange}

-- labels that are refused have a fault, unless memory ran out
pub set_judged : (fault : Option LabelFault) (f : LabelFault) (g : SettingsFault) → MatchOption fault (f ≡ label.OutOfMemory) (λ h. f ≡ h) → g ≡ fault_of_set f
    → (g ≡ OutOfMemory) ⊎ ((g ≡ OutOfRange) × (fault ≡ None → ⊥))
set_judged None f g e is = inl (is ∙ ap fault_of_set e)
set_judged (Some h) label.OutOfMemory g e is = inl is
set_judged (Some h) label.NotUtf8 g e is = inr (is, λ none. absurd cc)
set_judged (Some h) label.EmptyName g e is = inr (is, λ none. absurd cc)
set_judged (Some h) label.BadName g e is = inr (is, λ none. absurd cc)
set_judged (Some h) label.EmptyValue g e is = inr (is, λ none. absurd cc)
set_judged (Some h) label.NotSorted g e is = inr (is, λ none. absurd cc)
set_judged (Some h) label.TooMany g e is = inr (is, λ none. absurd cc)
set_judged (Some h) label.TooLong g e is = inr (is, λ none. absurd cc)
