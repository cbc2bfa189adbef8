use Rattle.rw_kept_log.specs.Additions.{definition_entry}
use Rattle.rw_kept_log.proofs.shared.HoldLemmas.{holds_none, holds_next, holds_all}
use Rattle.rw_kept_log.proofs.records.put_definitions.Goals as goal

pub loop-definition-init : goal.loop-definition-init
loop-definition-init c = holds_none c.args.writer.now

pub loop-definition-preserved : goal.loop-definition-preserved
loop-definition-preserved c =
    holds_next definition_entry c.args.definitions.now c.loop-definition.definition-index c.definition-item.result c.args.writer.now c.loop-definition.writer c.put_definition.new.writer
    c.loop-definition-test.true c.definition-item.is c.loop-definition.invariant c.in_ok-put_definition.ensures

pub returns : goal.returns
returns c = holds_all definition_entry c.args.definitions.now c.loop-definition.definition-index c.args.writer.now c.loop-definition.writer c.loop-definition-test.false c.loop-definition.invariant
