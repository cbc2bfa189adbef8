use Rattle.std.proofs.Common.{arith}
use Rattle.rw_wal_tail.proofs.FormLaws.{skip_none, skip_label, skip_fails, skip_all}
use Rattle.rw_wal_tail.proofs.form.after_labels.Goals as goal

pub loop-init : goal.loop-init
loop-init c = record { left = skip_none c.args.count c.args.bytes.now; shorter = omega arith }

pub returns-in_default-clause-value : goal.returns-in_default-clause-value
returns-in_default-clause-value c =
    skip_fails c.args.count c.loop.counter c.args.bytes.now c.loop.rest.now c.loop.invariant.left c.loop-test.true c.in_default.ensures.value

pub loop-preserved : goal.loop-preserved
loop-preserved c = record {
  left = skip_label c.args.count c.loop.counter c.args.bytes.now c.loop.rest.now c.in-Some.more.now _ c.loop.invariant.left c.loop-test.true c.in-Some.ensures.value;
  shorter = omega (arith, c.loop.invariant.shorter, c.in-Some.ensures.shorter);
}

pub returns-clause-value : goal.returns-clause-value
returns-clause-value c = skip_all c.args.count c.loop.counter c.args.bytes.now c.loop.rest.now c.loop.invariant.left c.loop-test.false
