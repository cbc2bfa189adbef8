-- What is at a key: nothing, a value of its type and in its range, or a fault.
use Rattle.std.specs.Prelude.{ℕ, ℤ, pos, negsuc, List, [], ◌∷◌, Bool, true, false, ◌&&◌, ◌||◌, nat_le, is_some, Option, Some, None, Result, Ok, Err, codes, if◌then◌else◌}
use Rattle.std.specs.Str.{bytes_eq}
use Rattle.toml.specs.Data.{Data, as_integer, as_bool, as_str, as_table, as_array, Members, no_members, Items, no_items, item}
use Rattle.rw_types.specs.declared.names.Names.{Names}
use Rattle.rw_types.specs.declared.names.Names.TheVariants.{Legacy, Utf8}
use Rattle.rw_settings.specs.declared.fault.SettingsFault.{SettingsFault}
use Rattle.rw_settings.specs.declared.fault.SettingsFault.TheVariants.{WrongType, OutOfRange, BadRule}

-- a whole number in a range
abbrev pub number_in : ℕ → ℕ → ℤ → Result (Option ℕ) SettingsFault
number_in low high (pos n) = if nat_le low n && nat_le n high then Ok (Some n) else Err OutOfRange
number_in low high (negsuc n) = Err OutOfRange

abbrev pub number_if : ℕ → ℕ → Option ℤ → Result (Option ℕ) SettingsFault
number_if low high None = Err WrongType
number_if low high (Some z) = number_in low high z

abbrev pub number_at : ℕ → ℕ → Option Data → Result (Option ℕ) SettingsFault
number_at low high None = Ok None
number_at low high (Some value) = number_if low high (as_integer value)

-- a text that passes a test
abbrev pub text_if : (List ℕ → Bool) → Option (List ℕ) → Result (Option (List ℕ)) SettingsFault
text_if test None = Err WrongType
text_if test (Some text) = if test text then Ok (Some text) else Err OutOfRange

abbrev pub text_setting : (List ℕ → Bool) → Option Data → Result (Option (List ℕ)) SettingsFault
text_setting test None = Ok None
text_setting test (Some value) = text_if test (as_str value)

-- a switch
abbrev pub switch_if : Option Bool → Result (Option Bool) SettingsFault
switch_if None = Err WrongType
switch_if (Some on) = Ok (Some on)

abbrev pub switch_at : Option Data → Result (Option Bool) SettingsFault
switch_at None = Ok None
switch_at (Some value) = switch_if (as_bool value)

-- any text
abbrev pub any_text : List ℕ → Bool
any_text text = true

-- the naming scheme that a text says: `legacy` or `utf8`
abbrev pub names_in : List ℕ → Result (Option Names) SettingsFault
names_in text =
    if bytes_eq text (codes "legacy") then Ok (Some Legacy)
    else if bytes_eq text (codes "utf8") then Ok (Some Utf8)
    else Err OutOfRange

abbrev pub names_text : Names → List ℕ
names_text Legacy = codes "legacy"
names_text Utf8 = codes "utf8"

abbrev pub names_if : Option (List ℕ) → Result (Option Names) SettingsFault
names_if None = Err WrongType
names_if (Some text) = names_in text

abbrev pub names_at : Option Data → Result (Option Names) SettingsFault
names_at None = Ok None
names_at (Some value) = names_if (as_str value)

-- an action is `keep` or `drop`, and has to be there
abbrev pub action_text_fault : Option (List ℕ) → Option SettingsFault
action_text_fault None = Some WrongType
action_text_fault (Some text) = if bytes_eq text (codes "keep") || bytes_eq text (codes "drop") then None else Some BadRule

abbrev pub action_fault : Option Data → Option SettingsFault
action_fault None = Some BadRule
action_fault (Some value) = action_text_fault (as_str value)

-- source labels are a list of texts that is not empty, and have to be there
abbrev pub are_texts : Items → Bool
are_texts no_items = true
are_texts (item value rest) = is_some (as_str value) && are_texts rest

abbrev pub labels_fault : Option Items → Option SettingsFault
labels_fault None = Some WrongType
labels_fault (Some no_items) = Some OutOfRange
labels_fault (Some (item value rest)) = if are_texts (item value rest) then None else Some WrongType

abbrev pub source_fault : Option Data → Option SettingsFault
source_fault None = Some BadRule
source_fault (Some value) = labels_fault (as_array value)

-- what was found, or the default where there is nothing that can be taken
abbrev pub found_or : {A : Type 0} → A → Result (Option A) SettingsFault → A
found_or default (Ok (Some x)) = x
found_or default _ = default

-- the table at a key, which is empty if there is no value, unless a value of another type is there
abbrev pub section : Option Data → Option Members
section None = Some no_members
section (Some value) = as_table value

-- the items of the array at a key, likewise
abbrev pub list_at : Option Data → Option Items
list_at None = Some no_items
list_at (Some value) = as_array value

-- what is wrong with a section
abbrev pub part_fault : {A : Type 0} → (A → Option SettingsFault) → Option A → Option SettingsFault
part_fault fault None = Some WrongType
part_fault fault (Some part) = fault part

-- a section, or an empty one if there is no valid one
abbrev pub part_or : {A : Type 0} → A → Option A → A
part_or empty None = empty
part_or empty (Some part) = part

-- the value of a setting; a switch has one if it is on
pub data Setting : Type 0 where
  of_number : ℕ → Setting
  of_true : Setting
  of_text : List ℕ → Setting
  of_texts : List (List ℕ) → Setting

-- a switch at the end of a table is written if it is on
abbrev pub switch_values : Bool → List Setting
switch_values true = of_true ∷ []
switch_values false = []
