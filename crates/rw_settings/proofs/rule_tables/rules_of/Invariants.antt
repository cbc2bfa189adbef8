use Rattle.std.proofs.Common.{drop}
use Rattle.toml.specs.View.{items_view}
use Rattle.rw_settings.specs.RuleTables.{rules_of}
use Rattle.rw_settings.proofs.RuleLemmas.{AreBuilt}
use Rattle.rw_settings.proofs.rule_tables.rules_of.Given as goal

abbrev pub invariant-loop-rule : goal.invariant-loop-rule
invariant-loop-rule l =
    AreBuilt l.built.items (rules_of (items_view (drop l.rule-index l.rules))) (rules_of (items_view l.rules))
