-- The tables `[[rule]]`.
use Rattle.std.specs.Prelude.{ℕ, List, [], ◌∷◌, Option, Some, None, codes, map, string_bytes, if◌then◌else◌}
use Rattle.std.specs.Str.{bytes_eq}
use Rattle.toml.specs.Data.{as_str, as_table, Members, no_members, get_member, Items, no_items, item}
use Rattle.rw_relabel.specs.Rules.{RuleConfig}
use Rattle.rw_relabel.specs.declared.rule.Action.{Action}
use Rattle.rw_relabel.specs.declared.rule.Action.TheVariants.{Keep, Drop}
use Rattle.rw_settings.specs.Faults.{lesser}
use Rattle.rw_settings.specs.Keys.{rule_keys, table_fault}
use Rattle.rw_settings.specs.Values.{Setting, of_text, of_texts, text_setting, any_text, found_or, list_at, part_or}
use Rattle.rw_settings.specs.declared.fault.SettingsFault.{SettingsFault}
use Rattle.rw_settings.specs.declared.rule_tables.RuleFields.{RuleFields}
use Rattle.rw_settings.specs.declared.fault.SettingsFault.TheVariants.{WrongType}

-- what is wrong with a rule, except that its pattern is refused
abbrev pub rule_table_fault : Members → Option SettingsFault
rule_table_fault table = table_fault rule_keys table

abbrev pub rule_fault_of : Option Members → Option SettingsFault
rule_fault_of None = Some WrongType
rule_fault_of (Some table) = rule_table_fault table

-- the least of a fault and those of rules
abbrev pub with_rules_fault : Option SettingsFault → Items → Option SettingsFault
with_rules_fault fault no_items = fault
with_rules_fault fault (item value rest) = with_rules_fault (lesser fault (rule_fault_of (as_table value))) rest

-- the action of a rule, if it has one
abbrev pub action_of : List ℕ → Action
action_of text = if bytes_eq text (codes "drop") then Drop else Keep

-- the texts of a list
abbrev pub texts_of : Items → List (List ℕ)
texts_of no_items = []
texts_of (item value rest) = part_or [] (as_str value) ∷ texts_of rest

-- the rule of a table, with the defaults of relabelling
unfoldable pub rule_config : Members → RuleConfig
rule_config table = record {
  action = action_of (found_or [] (text_setting any_text (get_member (codes "action") table)));
  source_labels = texts_of (part_or no_items (list_at (get_member (codes "source_labels") table)));
  separator = found_or (codes ";") (text_setting any_text (get_member (codes "separator") table));
  pattern = found_or (codes "(.*)") (text_setting any_text (get_member (codes "regex") table));
}

abbrev pub rules_of : Items → List RuleConfig
rules_of no_items = []
rules_of (item value rest) = rule_config (part_or no_members (as_table value)) ∷ rules_of rest

-- the rule of these written fields
abbrev pub written_rule : RuleFields → RuleConfig
written_rule r = record {
  action = r.action;
  source_labels = map string_bytes r.source_labels.items;
  separator = string_bytes r.separator;
  pattern = string_bytes r.pattern;
}

abbrev pub action_text : Action → List ℕ
action_text Keep = codes "keep"
action_text Drop = codes "drop"

-- the values in the order of the keys
abbrev pub rule_values : RuleConfig → List Setting
rule_values rule = of_text (action_text rule.action) ∷ of_texts rule.source_labels ∷ of_text rule.separator ∷ of_text rule.pattern ∷ []
