-- What is added to requests: the table `send.headers`, and the file of a bearer token.
use Rattle.std.specs.Prelude.{ℕ, List, [], ◌∷◌, map, fold, Option, Some, None, codes, if◌then◌else◌}
use Rattle.toml.specs.Data.{Data, as_str, as_table, Members, no_members, member, get_member}
use Rattle.rw_fields.specs.Fields.{NameValue, is_extra}
use Rattle.rw_settings.specs.Faults.{lesser}
use Rattle.rw_settings.specs.Values.{section, part_or, text_setting, any_text, found_or}
use Rattle.rw_settings.specs.declared.fault.SettingsFault.{SettingsFault}
use Rattle.rw_settings.specs.declared.fault.SettingsFault.TheVariants.{WrongType, OutOfRange}

-- the keys of a table
abbrev pub member_names : Members → List (List ℕ)
member_names no_members = []
member_names (member key value rest) = key ∷ member_names rest

-- what is wrong with a field: its value is no text, or a request cannot have it
abbrev pub text_fault : List ℕ → Option (List ℕ) → Option SettingsFault
text_fault name None = Some WrongType
text_fault name (Some text) = if is_extra (name, text) then None else Some OutOfRange

abbrev pub value_fault : List ℕ → Option Data → Option SettingsFault
value_fault name None = None
value_fault name (Some value) = text_fault name (as_str value)

abbrev pub field_fault : Members → List ℕ → Option SettingsFault
field_fault table name = value_fault name (get_member name table)

-- the least fault of the fields
abbrev pub fields_fault : Option Members → Option SettingsFault
fields_fault None = Some WrongType
fields_fault (Some table) = fold lesser None (map (field_fault table) (member_names table))

abbrev pub headers_fault : Option Data → Option SettingsFault
headers_fault None = None
headers_fault (Some value) = fields_fault (as_table value)

-- the text at a key, which is empty if there is none
abbrev pub text_at : Members → List ℕ → List ℕ
text_at table key = found_or [] (text_setting any_text (get_member key table))

abbrev pub field_at : Members → List ℕ → NameValue
field_at table name = (name, text_at table name)

-- the fields that a table sets
abbrev pub fields_of : Members → List NameValue
fields_of table = map (field_at table) (member_names table)

abbrev pub part_at : Members → List ℕ → Members
part_at document key = part_or no_members (section (get_member key document))

-- the fields that a document sets
abbrev pub sent_fields : Members → List NameValue
sent_fields document = fields_of (part_at (part_at document (codes "send")) (codes "headers"))

-- the file of a token, or nothing
abbrev pub token_file : Members → List ℕ
token_file document = text_at (part_at document (codes "send")) (codes "bearer_token_file")
