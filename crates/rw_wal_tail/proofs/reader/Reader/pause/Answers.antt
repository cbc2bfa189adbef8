use Rattle.std.proofs.Common.{◌∙◌, true, false, ap, sym, refl}
use Rattle.rw_wal_format.specs.declared.tail_fault.TailFault.TheVariants.{TornSegment}
use Rattle.rw_wal_tail.specs.declared.reader.Reader.{Reader}
use Rattle.rw_wal_tail.specs.inner.Steps.{PausesAt, compresses}
use Rattle.rw_wal_tail.proofs.StepLaws.{Failing, same_begun, same_torn}
use Rattle.rw_wal_tail.proofs.reader.Reader.pause.Goals as goal

pub returns-then-is_inside-clause-same : goal.returns-then-is_inside-clause-same
returns-then-is_inside-clause-same c =
    let e = c.fail.ensures.new in
    let p : PausesAt true c.args.self.now = (rw c.if-is_inside.true at c.requires) in
    let a : Failing c.args.self.now c.fail.new.self TornSegment = record { input = ap (λ (r : Reader). r.input) e; left = ap (λ (r : Reader). r.left) e; zeros = ap (λ (r : Reader). r.zeros) e; ready = ap (λ (r : Reader). r.ready.items) e ∙ c.requires.can_step.none_ready; passed = ap (λ (r : Reader). r.passed) e; fault = ap (λ (r : Reader). r.fault) e; of_log = tt; mode = ap (λ (r : Reader). compresses r) e } in
    same_torn c.args.self.now c.fail.new.self p (sym c.has_ended.ensures ∙ c.if-not-has_ended.false) a

pub returns-clause-same : goal.returns-clause-same
returns-clause-same c =
    let p : PausesAt false c.args.self.now = (rw c.if-is_inside.false at c.requires) in
    same_begun c.args.self.now _ p (sym c.has_ended.ensures ∙ c.if-not-has_ended.false) c.begin_segment.ensures refl refl refl refl refl refl refl
