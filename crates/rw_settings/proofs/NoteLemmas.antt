-- The least fault of notes.
use Rattle.std.proofs.Common.{◌≡◌, inl, inr, List, [], ◌∷◌, ◌++◌, fold, Bool, true, false, cond, nat_lt, Option, Some, None, refl, sym, ap, ◌∙◌, arith}
use Rattle.std.specs.Result.{result_err}
use Rattle.std.proofs.lemmas.Bool.Decides.{nat_tests}
use Rattle.toml.specs.Data.{Items, no_items, item, as_table}
use Rattle.rw_settings.specs.Faults.{fault_number, lesser, least}
use Rattle.rw_settings.specs.Notes.{with_note, noted, IsLeastNoted}
use Rattle.rw_settings.specs.RuleTables.{rule_fault_of, with_rules_fault}
use Rattle.rw_settings.specs.Settings.{unless_faulty}
use Rattle.rw_settings.specs.declared.fault.SettingsFault.{SettingsFault}
use Rattle.rw_settings.specs.declared.fault.SettingsFault.TheVariants.{UnknownKey, BadRule}
use Rattle.rw_settings.specs.declared.notes.SettingsNote.{SettingsNote}
use Rattle.rw_settings.specs.declared.settings.Settings.{Settings}

pub lesser_of_none : (f : Option SettingsFault) → f ≡ lesser f None
lesser_of_none None = refl
lesser_of_none (Some f) = refl

-- the lesser of three does not go by the order in which they are compared
among_three : (f g h : SettingsFault) (a b c : Bool) → nat_lt (fault_number g) (fault_number f) ≡ a → nat_lt (fault_number h) (fault_number g) ≡ b → nat_lt (fault_number h) (fault_number f) ≡ c
    → lesser (cond a (Some g) (Some f)) (Some h) ≡ lesser (Some f) (cond b (Some h) (Some g))
among_three f g h true true true p q r = rw (q, r) refl
among_three f g h true true false p q r = absurd (grind (arith, nat_tests))
among_three f g h true false c p q r = rw (p, q) refl
among_three f g h false true c p q r = refl
among_three f g h false false true p q r = absurd (grind (arith, nat_tests))
among_three f g h false false false p q r = rw (p, r) refl

pub lesser_assoc : (f g h : Option SettingsFault) → lesser (lesser f g) h ≡ lesser f (lesser g h)
lesser_assoc None g h = refl
lesser_assoc (Some f) None h = refl
lesser_assoc (Some f) (Some g) None = sym (lesser_of_none (lesser (Some f) (Some g)))
lesser_assoc (Some f) (Some g) (Some h) =
    among_three f g h (nat_lt (fault_number g) (fault_number f)) (nat_lt (fault_number h) (fault_number g)) (nat_lt (fault_number h) (fault_number f)) refl refl refl

-- the least of some, beginning with one
pub least_from : (f : Option SettingsFault) (fs : List (Option SettingsFault)) → fold lesser f fs ≡ lesser f (least fs)
unfolding least
least_from f [] = lesser_of_none f
least_from f (g ∷ fs) = least_from (lesser f g) fs ∙ lesser_assoc f g (fold lesser None fs) ∙ ap (lesser f) (sym (least_from g fs))

noted_from : (f : Option SettingsFault) (notes : List SettingsNote) (n : SettingsNote) → fold with_note f (notes ++ n ∷ []) ≡ lesser (fold with_note f notes) (Some n.fault)
noted_from f [] n = refl
noted_from f (m ∷ notes) n = noted_from (with_note f m) notes n

-- one more note
pub noted_one_more : (notes : List SettingsNote) (n : SettingsNote) → noted (notes ++ n ∷ []) ≡ lesser (noted notes) (Some n.fault)
unfolding noted
noted_one_more notes n = noted_from None notes n

-- rules, beginning with a fault
pub rules_from : (f : Option SettingsFault) (ds : Items) → with_rules_fault f ds ≡ lesser f (with_rules_fault None ds)
rules_from f no_items = lesser_of_none f
rules_from f (item d ds) =
    rules_from (lesser f (rule_fault_of (as_table d))) ds ∙ lesser_assoc f (rule_fault_of (as_table d)) (with_rules_fault None ds) ∙ ap (lesser f) (sym (rules_from (rule_fault_of (as_table d)) ds))

-- an unknown key before others
pub unknown_before : (f : Option SettingsFault) (known : Bool) → lesser (lesser f (Some UnknownKey)) (cond known None (Some UnknownKey)) ≡ lesser f (Some UnknownKey)
unknown_before f true = sym (lesser_of_none (lesser f (Some UnknownKey)))
unknown_before f false = lesser_assoc f (Some UnknownKey) (Some UnknownKey)

-- the fault of what was judged
pub judged_fault : (f : Option SettingsFault) (s : Settings) → result_err (unless_faulty f s) ≡ f
judged_fault None s = refl
judged_fault (Some f) s = refl

-- one more bad rule changes no more than the first
pub bad_rule_again : (judged noted_before noted_after : Option SettingsFault) → IsLeastNoted judged noted_before → noted_after ≡ lesser noted_before (Some BadRule) → IsLeastNoted judged noted_after
bad_rule_again judged before after (inl same) more = inr (more ∙ ap (λ f. lesser f (Some BadRule)) same)
bad_rule_again judged before after (inr same) more = inr (more ∙ ap (λ f. lesser f (Some BadRule)) same ∙ lesser_assoc judged (Some BadRule) (Some BadRule))
