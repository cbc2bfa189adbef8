-- The keys of a table, one after the other.
use Rattle.std.proofs.Common.{◌≡◌, ℕ, ◌≤◌, ℤ, pos, negsuc, List, [], ◌∷◌, map, Bool, true, false, ◌&&◌, nat_le, cond, Option, Some, None, Ok, Err, refl, ap, String, Global, string_bytes, arith}
use Rattle.std.specs.List.{list_any}
use Rattle.std.specs.Map.{keys_of}
use Rattle.std.specs.Str.{bytes_eq}
use Rattle.std.proofs.lemmas.Bool.Decides.{nat_tests}
use Rattle.toml.specs.Data.{Data, as_integer}
use Rattle.toml.specs.View.{members_view}
use Rattle.toml.specs.declared.value.Value.{Value}
use Rattle.rw_settings.specs.Keys.{Row, snappy, headers, bearer_token_file, external_labels, number_for, has_only}
use Rattle.rw_settings.specs.inner.Keys.{has_range}
use Rattle.rw_settings.specs.SentFields.{member_names}
use Rattle.rw_settings.specs.SettingsText.{lines_of}
use Rattle.rw_settings.specs.Values.{switch_values, number_if, number_at, found_or}
use Rattle.rw_settings.specs.declared.keys.Kind.{Kind}
use Rattle.rw_settings.specs.declared.fault.SettingsFault.TheVariants.{OutOfRange}

-- each key is one of these
abbrev pub all_known : List Row → List (String Global) → Bool
all_known rows [] = true
all_known rows (key ∷ keys) = list_any (λ row. bytes_eq (string_bytes key) row.0) rows && all_known rows keys

-- the members of a map have its keys
pub has_only-entries : (rows : List Row) (es : List (String Global × Value)) → has_only rows (members_view es) ≡ all_known rows (keys_of es)
has_only-entries rows [] = refl
has_only-entries rows (e ∷ es) = ap (λ b. list_any (λ row. bytes_eq (string_bytes e.0) row.0) rows && b) (has_only-entries rows es)

-- the line of a switch, whatever keys come after it
pub switch_lines : (on : Bool) → lines_of (snappy ∷ []) (switch_values on) ≡ lines_of (snappy ∷ headers ∷ bearer_token_file ∷ external_labels ∷ []) (switch_values on)
switch_lines true = refl
switch_lines false = refl

-- the keys of a map
abbrev pub key_texts : List (String Global) → List (List ℕ)
key_texts keys = map string_bytes keys

pub member_names-entries : (es : List (String Global × Value)) → member_names (members_view es) ≡ key_texts (keys_of es)
member_names-entries [] = refl
member_names-entries (e ∷ es) = ap (λ (names : List (List ℕ)). string_bytes e.0 ∷ names) (member_names-entries es)

-- ---- what a table sets

-- a number is in a range
abbrev pub IsIn : ℕ → ℕ → ℕ → Type 0
IsIn low high n = (nat_le low n && nat_le n high) ≡ true

number_tested : (low high d n : ℕ) (b : Bool) → (nat_le low n && nat_le n high) ≡ b → IsIn low high d → IsIn low high (found_or d (cond b (Ok (Some n)) (Err OutOfRange)))
number_tested low high d n true is default = is
number_tested low high d n false is default = default

number_in_range : (low high d : ℕ) (z : Option ℤ) → IsIn low high d → IsIn low high (found_or d (number_if low high z))
number_in_range low high d None default = default
number_in_range low high d (Some (pos n)) default = number_tested low high d n (nat_le low n && nat_le n high) refl default
number_in_range low high d (Some (negsuc n)) default = default

-- a number that was taken is in its range, and so is its default
pub number_taken : (low high d : ℕ) (value : Option Data) → IsIn low high d → IsIn low high (found_or d (number_at low high value))
number_taken low high d None default = default
number_taken low high d (Some value) default = number_in_range low high d (as_integer value) default

module _ (low high : ℕ) where
  default_in : (least greatest default : ℕ) → has_range low high (Kind.Number least greatest default) ≡ true → (least ≡ low) × (greatest ≡ high) × IsIn least greatest default
  default_in least greatest default h = (grind (arith, nat_tests), grind (arith, nat_tests), grind (arith, nat_tests))

  pub in_range : (kind : Kind) (value : Option Data) → has_range low high kind ≡ true → (low ≤ number_for kind value) × (number_for kind value ≤ high)
  in_range (Kind.Number least greatest default) value h =
      let (low_is, high_is, default_is) = default_in least greatest default h in
      let is = number_taken least greatest default value default_is in
      (grind (arith, nat_tests), grind (arith, nat_tests))
  in_range _ value h = absurd cc

  pub is_low : (kind : Kind) (value : Option Data) → has_range low high kind ≡ true → low ≤ number_for kind value
  is_low kind value h = (in_range kind value h).0

  pub is_high : (kind : Kind) (value : Option Data) → has_range low high kind ≡ true → number_for kind value ≤ high
  is_high kind value h = (in_range kind value h).1
