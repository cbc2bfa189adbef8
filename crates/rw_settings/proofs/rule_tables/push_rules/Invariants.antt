use Rattle.std.proofs.Common.{◌≡◌, ◌++◌, map, flat_map, drop, string_bytes}
use Rattle.rw_settings.specs.RuleTables.{written_rule}
use Rattle.rw_settings.specs.SettingsText.{rule_text}
use Rattle.rw_settings.proofs.rule_tables.push_rules.Given as goal

abbrev pub invariant-loop-rule : goal.invariant-loop-rule
invariant-loop-rule l =
    string_bytes l.out ++ flat_map rule_text (map written_rule (drop l.rule-index l.rules))
    ≡ string_bytes l.initial.out ++ flat_map rule_text (map written_rule l.rules)
