use Rattle.std.proofs.Common.{◌∙◌, ap}
use Rattle.rw_settings.specs.RuleTables.{rule_config}
use Rattle.rw_settings.proofs.RuleLemmas.{built_one_more, refused_one, fault_kept}
use Rattle.rw_settings.proofs.rule_tables.rules_of.Goals as goal

pub loop-rule-preserved : goal.loop-rule-preserved
loop-rule-preserved c =
    rw c.in_ok-push_rule.ensures
    (built_one_more _ _ _ _ _ _ c.loop-rule-test.true c.rule-item.is c.loop-rule.invariant
    (c.in_ok-rule.ensures.rule ∙ ap rule_config c.table_or.ensures) c.in_ok-rule.ensures.readable)

pub returns-in_err-rule-clause-err : goal.returns-in_err-rule-clause-err
returns-in_err-rule-clause-err c =
    fault_kept _ _ _ c.from_residual-in_err-rule.ensures.1
    (refused_one _ _ _ _ _ _ c.loop-rule-test.true c.rule-item.is c.loop-rule.invariant (rw (← c.table_or.ensures) c.in_err-rule.ensures.err))
