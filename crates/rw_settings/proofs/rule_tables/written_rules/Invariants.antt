use Rattle.std.proofs.Common.{◌≡◌, ◌++◌, drop, map}
use Rattle.toml.specs.View.{items_view}
use Rattle.rw_settings.specs.RuleTables.{rules_of, written_rule}
use Rattle.rw_settings.proofs.rule_tables.written_rules.Given as goal

abbrev pub invariant-loop-rule : goal.invariant-loop-rule
invariant-loop-rule l =
    map written_rule l.written.items ++ rules_of (items_view (drop l.rule-index l.rules)) ≡ rules_of (items_view l.rules)
