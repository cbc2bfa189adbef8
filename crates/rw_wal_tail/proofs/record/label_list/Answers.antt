use Rattle.std.proofs.Common.{◌∙◌, arith}
use Rattle.rw_wal_tail.proofs.ItemLaws.{labels_start, labels_step, labels_fail, labels_done}
use Rattle.rw_wal_tail.proofs.record.label_list.Goals as goal

pub loop-init : goal.loop-init
loop-init c = record { left = labels_start c.new-labels.result c.args.count c.args.bytes.now c.new-labels.ensures; shorter = omega arith }

pub returns-in_default-clause-err : goal.returns-in_default-clause-err
returns-in_default-clause-err c =
    c.loop.invariant.left ∙ labels_fail c.loop.labels c.args.count c.loop.counter c.loop.rest.now c.loop-test.true c.in_default.ensures.value

pub loop-preserved : goal.loop-preserved
loop-preserved c = record {
  left = c.loop.invariant.left
      ∙ labels_step c.loop.labels c.push.new.self c.args.count c.loop.counter c.loop.rest.now c.in-Some.more.now _ c.loop-test.true c.in-Some.ensures.value c.in_ok-push.ensures.ok;
  shorter = omega (arith, c.loop.invariant.shorter, c.in-Some.ensures.shorter);
}

pub returns-clause-ok : goal.returns-clause-ok
returns-clause-ok c = c.loop.invariant.left ∙ labels_done c.loop.labels c.args.count c.loop.counter c.loop.rest.now c.loop-test.false
