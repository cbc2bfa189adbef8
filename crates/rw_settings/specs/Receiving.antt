-- The table `receive`.
use Rattle.std.specs.Prelude.{List, ◌∷◌, Option}
use Rattle.toml.specs.Data.{Members}
use Rattle.rw_head.specs.declared.limits.Limits.{Limits}
use Rattle.rw_settings.specs.Keys.{receive_keys, max_body_bytes, max_labels, max_label_bytes, busy_first, snappy, number_setting, switch_setting, path_of, names_setting, table_fault}
use Rattle.rw_settings.specs.Values.{Setting, of_number, of_text, names_text, switch_values}
use Rattle.rw_settings.specs.declared.fault.SettingsFault.{SettingsFault}

-- what the table sets, with the default of each key that it does not have
unfoldable pub receive_limits : Members → Limits
receive_limits table = record {
  path = path_of table;
  max_body_bytes = number_setting max_body_bytes table;
  max_labels = number_setting max_labels table;
  max_label_bytes = number_setting max_label_bytes table;
  busy_first = number_setting busy_first table;
  names = names_setting table;
  snappy = switch_setting snappy table;
}

abbrev pub receive_fault : Members → Option SettingsFault
receive_fault table = table_fault receive_keys table

-- the values in the order of the keys
abbrev pub receive_values : Limits → List Setting
receive_values limits =
    of_text limits.path ∷ of_number limits.max_body_bytes ∷ of_number limits.max_labels ∷ of_number limits.max_label_bytes ∷ of_number limits.busy_first
    ∷ of_text (names_text limits.names) ∷ switch_values limits.snappy
