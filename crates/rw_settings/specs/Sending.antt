-- The table `send`.
use Rattle.std.specs.Prelude.{List, [], ◌∷◌, Option, Some, None, if◌then◌else◌}
use Rattle.toml.specs.Data.{Members}
use Rattle.rw_relabel.specs.Rules.{RuleConfig}
use Rattle.rw_shard_core.specs.Configs.{is_ordered}
use Rattle.rw_shard_core.specs.declared.config.ConfigFields.{ConfigFields}
use Rattle.rw_settings.specs.Faults.{lesser}
use Rattle.rw_settings.specs.Keys.{send_keys, shards, min_shards, max_shards, capacity, batch, min_backoff_ms, max_backoff_ms, timeout_ms, snappy, number_setting, switch_setting, host_of, path_of, names_setting, table_fault}
use Rattle.rw_settings.specs.SentLabels.{external_fault}
use Rattle.rw_settings.specs.Values.{Setting, of_number, of_text, names_text, switch_values}
use Rattle.rw_settings.specs.declared.fault.SettingsFault.{SettingsFault}
use Rattle.rw_settings.specs.declared.fault.SettingsFault.TheVariants.{OutOfRange}

-- what the table sets, with the default of each key that it does not have
unfoldable pub send_fields : Members → List RuleConfig → ConfigFields
send_fields table rules = record {
  target = record { host = host_of table; path = path_of table };
  shards = number_setting shards table;
  min_shards = number_setting min_shards table;
  max_shards = number_setting max_shards table;
  capacity = number_setting capacity table;
  batch = number_setting batch table;
  min_backoff_ms = number_setting min_backoff_ms table;
  max_backoff_ms = number_setting max_backoff_ms table;
  timeout_ms = number_setting timeout_ms table;
  names = names_setting table;
  snappy = switch_setting snappy table;
  rules = rules;
}

-- shards and backoff are between their bounds, with the defaults filled in
unfoldable pub order_fault : Members → Option SettingsFault
order_fault table = if is_ordered (send_fields table []) then None else Some OutOfRange

abbrev pub send_fault : Members → Option SettingsFault
send_fault table = lesser (lesser (table_fault send_keys table) (order_fault table)) (external_fault table)

-- the values in the order of the keys
abbrev pub send_values : ConfigFields → List Setting
send_values send =
    of_text send.target.host ∷ of_text send.target.path ∷ of_number send.shards ∷ of_number send.min_shards ∷ of_number send.max_shards ∷ of_number send.capacity
    ∷ of_number send.batch ∷ of_number send.min_backoff_ms ∷ of_number send.max_backoff_ms ∷ of_number send.timeout_ms ∷ of_text (names_text send.names) ∷ switch_values send.snappy
