-- The text of settings: a TOML document that gives each key.
use Rattle.std.specs.Prelude.{ℕ, Bool, true, false, List, [], ◌∷◌, ◌++◌, flat_map, codes, decimal}
use Rattle.std.specs.List.{concat, join_by}
use Rattle.toml_writer.specs.Text.{string_text}
use Rattle.rw_relabel.specs.Rules.{RuleConfig}
use Rattle.rw_shard_core.specs.declared.config.ConfigFields.{ConfigFields}
use Rattle.rw_head.specs.declared.limits.Limits.{Limits}
use Rattle.rw_settings.specs.Keys.{Row, send_keys, receive_keys, log_keys, rule_keys}
use Rattle.rw_settings.specs.LogTable.{log_values}
use Rattle.rw_settings.specs.Receiving.{receive_values}
use Rattle.rw_settings.specs.RuleTables.{rule_values}
use Rattle.rw_settings.specs.Sending.{send_values}
use Rattle.rw_settings.specs.Values.{Setting, of_number, of_true, of_text, of_texts}
use Rattle.rw_settings.specs.declared.settings.Settings.{Settings}

-- `KEY = VALUE`
unfoldable pub pair_line : List ℕ → List ℕ → List ℕ
pair_line key value = key ++ (codes " = " ++ (value ++ codes "\n"))

-- `["A", "B"]`
abbrev pub list_text : List (List ℕ) → List ℕ
list_text texts = codes "[" ++ (join_by string_text (codes ", ") texts ++ codes "]")

abbrev pub setting_value_text : Setting → List ℕ
setting_value_text (of_number n) = decimal n
setting_value_text of_true = codes "true"
setting_value_text (of_text t) = string_text t
setting_value_text (of_texts ts) = list_text ts

-- a line for each value, with its key
abbrev pub lines_of : List Row → List Setting → List (List ℕ)
lines_of (row ∷ rows) (value ∷ values) = pair_line row.0 (setting_value_text value) ∷ lines_of rows values
lines_of _ _ = []

abbrev pub send_lines : ConfigFields → List (List ℕ)
send_lines send = codes "[send]\n" ∷ lines_of send_keys (send_values send)

unfoldable pub send_text : ConfigFields → List ℕ
send_text send = concat (send_lines send)

abbrev pub receive_lines : Limits → List (List ℕ)
receive_lines limits = codes "\n[receive]\n" ∷ lines_of receive_keys (receive_values limits)

unfoldable pub receive_text : Limits → List ℕ
receive_text limits = concat (receive_lines limits)

-- a log without Snappy blocks has no table
abbrev pub log_lines : Bool → List (List ℕ)
log_lines true = codes "\n[log]\n" ∷ lines_of log_keys (log_values true)
log_lines false = []

unfoldable pub log_text : Bool → List ℕ
log_text may_compress = concat (log_lines may_compress)

abbrev pub rule_lines : RuleConfig → List (List ℕ)
rule_lines rule = codes "\n[[rule]]\n" ∷ lines_of rule_keys (rule_values rule)

unfoldable pub rule_text : RuleConfig → List ℕ
rule_text rule = concat (rule_lines rule)

-- the tables `send`, `receive` and `log`, and then the rules in their order
unfoldable pub settings_text : Settings → List ℕ
settings_text s =
    send_text s.config ++ (receive_text s.limits ++ (log_text s.may_compress ++ flat_map rule_text s.config.rules))
