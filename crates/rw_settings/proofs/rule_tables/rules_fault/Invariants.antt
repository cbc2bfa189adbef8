use Rattle.std.proofs.Common.{◌≡◌, drop, None}
use Rattle.toml.specs.View.{items_view}
use Rattle.rw_settings.specs.RuleTables.{with_rules_fault}
use Rattle.rw_settings.proofs.rule_tables.rules_fault.Given as goal

abbrev pub invariant-loop-rule : goal.invariant-loop-rule
invariant-loop-rule l =
    with_rules_fault l.worst (items_view (drop l.rule-index l.rules)) ≡ with_rules_fault None (items_view l.rules)
