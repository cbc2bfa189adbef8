-- Labels that are taken by their names.
use Rattle.std.proofs.Common.{◌≡◌, ◌≢◌, List, [], ◌∷◌, Bool, true, false, not, nat_lt, length, Option, Some, None, refl, sym, ap, ◌∙◌, if◌then◌else◌}
use Rattle.std.specs.List.{list_all}
use Rattle.rw_types.specs.Labels.{Label, Labels, is_text, is_filled, has_legacy_names, is_well_named, are_sorted, text_len, label_fault}
use Rattle.rw_types.specs.declared.names.Names.{Names}
use Rattle.rw_types.specs.declared.names.Names.TheVariants.{Legacy, Utf8}
use Rattle.rw_types.specs.declared.label_fault.LabelFault.{LabelFault}
use Rattle.rw_types.specs.declared.label_fault.LabelFault.TheVariants.{NotUtf8, EmptyName, BadName, EmptyValue, NotSorted, TooMany, TooLong}

-- the first fault, by what each test says
abbrev by_tests : (text filled named valued sorted many long : Bool) → Option LabelFault
by_tests text filled named valued sorted many long =
    if not text then Some NotUtf8
    else if not filled then Some EmptyName
    else if not named then Some BadName
    else if not valued then Some EmptyValue
    else if not sorted then Some NotSorted
    else if many then Some TooMany
    else if long then Some TooLong
    else None

named_anyhow : (text filled named valued sorted many long : Bool)
    → by_tests text filled named valued sorted many long ≡ None → by_tests text filled true valued sorted many long ≡ None
named_anyhow true true true valued sorted many long e = e
named_anyhow true true false valued sorted many long e = absurd cc
named_anyhow true false named valued sorted many long e = absurd cc
named_anyhow false filled named valued sorted many long e = absurd cc

never_bad : (text filled valued sorted many long : Bool) → by_tests text filled true valued sorted many long ≢ Some BadName
never_bad false filled valued sorted many long e = absurd cc
never_bad true false valued sorted many long e = absurd cc
never_bad true true false sorted many long e = absurd cc
never_bad true true true false many long e = absurd cc
never_bad true true true true true long e = absurd cc
never_bad true true true true false true e = absurd cc
never_bad true true true true false false e = absurd cc

all_true : {A : Type 0} (xs : List A) → list_all (λ x. true) xs ≡ true
all_true [] = refl
all_true (x ∷ xs) = all_true xs

-- no test of names is left if any is taken
utf8_by : (ls : Labels)
    → label_fault Utf8 ls ≡ by_tests (list_all is_text ls) (list_all (λ l. is_filled l.0) ls) true (list_all (λ l. is_filled l.1) ls)
    (are_sorted ls) (nat_lt 64 (length ls)) (nat_lt 16384 (text_len ls))
utf8_by ls = rw (all_true ls) refl

pub legacy_is_utf8 : (ls : Labels) → label_fault Legacy ls ≡ None → label_fault Utf8 ls ≡ None
legacy_is_utf8 ls e = utf8_by ls ∙ named_anyhow _ _ (list_all has_legacy_names ls) _ _ _ _ e

pub utf8_has_no_bad_name : (ls : Labels) → label_fault Utf8 ls ≢ Some BadName
utf8_has_no_bad_name ls e = never_bad _ _ _ _ _ _ (sym (utf8_by ls) ∙ e)

-- whatever names were taken, the labels are a label set of any names
pub of_any_names : (names : Names) (ls : Labels) → label_fault names ls ≡ None → label_fault Utf8 ls ≡ None
of_any_names Legacy ls e = legacy_is_utf8 ls e
of_any_names Utf8 ls e = e

-- and if any name is taken, all of them are
pub all_well_named : {A : Type 0} (names : Names) (f : A → Label) (xs : List A) → names ≡ Utf8 → true ≡ list_all (λ x. is_well_named names (f x)) xs
all_well_named names f xs e = sym (all_true xs) ∙ ap (λ n. list_all (λ x. is_well_named n (f x)) xs) (sym e)
