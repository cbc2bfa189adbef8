-- The table `log`.
use Rattle.std.specs.Prelude.{Bool, List, Option}
use Rattle.toml.specs.Data.{Members}
use Rattle.rw_settings.specs.Keys.{log_keys, compression, switch_setting, table_fault}
use Rattle.rw_settings.specs.Values.{Setting, switch_values}
use Rattle.rw_settings.specs.declared.fault.SettingsFault.{SettingsFault}

-- whether records of the log may be Snappy blocks
abbrev pub may_compress_of : Members → Bool
may_compress_of table = switch_setting compression table

abbrev pub log_fault : Members → Option SettingsFault
log_fault table = table_fault log_keys table

-- the values in the order of the keys
abbrev pub log_values : Bool → List Setting
log_values may_compress = switch_values may_compress
