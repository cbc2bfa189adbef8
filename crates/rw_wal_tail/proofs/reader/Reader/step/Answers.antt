use Rattle.std.proofs.Common.{◌≡◌, ◌∙◌, length, ap, sym, refl, inr, arith}
use Rattle.rw_wal_format.specs.Segments.{nothing, zeros, wrong}
use Rattle.rw_wal_tail.specs.declared.reader.Reader.{Reader}
use Rattle.rw_wal_tail.specs.inner.Steps.{CanStep, compresses, item_of}
use Rattle.std.specs.Prelude.{vec_capacity}
use Rattle.rw_wal_tail.proofs.KeptLaws.{kept_same, kept_passed, lacks_count}
use Rattle.rw_wal_tail.proofs.FoundLaws.{wrong_of_log, nothing_known}
use Rattle.rw_wal_tail.proofs.StepLaws.{Failing, found_item, same_zeros, bad_item}
use Rattle.rw_wal_tail.proofs.reader.Reader.step.Goals as goal

pub returns-in-Zeros-clause-same : goal.returns-in-Zeros-clause-same
returns-in-Zeros-clause-same c =
    let can : CanStep c.args.self.now = record { reader = c.requires.reader; counted = sym c.can_count.ensures ∙ c.if-not-can_count.false; none_ready = c.requires.none_ready; no_fault = c.in_default.is } in
    let z : item_of c.args.self.now ≡ zeros = found_item c.is_ready.result (compresses c.args.self.now) c.args.self.now.left c.rest.result.now c.args.self.now.input.rest zeros c.is_ready.ensures c.rest.ensures c.in-Zeros.ensures.item in
    same_zeros c.args.self.now _ can z c.pass.ensures refl refl refl refl refl refl refl

pub returns-in-Wrong-clause-same : goal.returns-in-Wrong-clause-same
returns-in-Wrong-clause-same c =
    let e = c.fail.ensures.new in
    let can : CanStep c.args.self.now = record { reader = c.requires.reader; counted = sym c.can_count.ensures ∙ c.if-not-can_count.false; none_ready = c.requires.none_ready; no_fault = c.in_default.is } in
    let z : item_of c.args.self.now ≡ wrong c.in-Wrong.fault = found_item c.is_ready.result (compresses c.args.self.now) c.args.self.now.left c.rest.result.now c.args.self.now.input.rest (wrong c.in-Wrong.fault) c.is_ready.ensures c.rest.ensures c.in-Wrong.ensures.item in
    let a : Failing c.args.self.now c.fail.new.self c.in-Wrong.fault = record { input = ap (λ (r : Reader). r.input) e; left = ap (λ (r : Reader). r.left) e; zeros = ap (λ (r : Reader). r.zeros) e; ready = ap (λ (r : Reader). r.ready.items) e ∙ c.requires.none_ready; passed = ap (λ (r : Reader). r.passed) e; fault = ap (λ (r : Reader). r.fault) e; mode = ap (λ (r : Reader). compresses r) e; of_log = wrong_of_log (compresses c.args.self.now) c.args.self.now.left c.args.self.now.input.rest c.in-Wrong.fault z } in
    bad_item c.args.self.now c.fail.new.self c.in-Wrong.fault can z a

pub pause-requires : goal.pause-requires
pause-requires c =
    let n : item_of c.args.self.now ≡ nothing = found_item c.is_ready.result (compresses c.args.self.now) c.args.self.now.left c.rest.result.now c.args.self.now.input.rest nothing c.is_ready.ensures c.rest.ensures c.in-Nothing.ensures.item in
    rw c.rest-in-Nothing.ensures (record {
      can_step = record {
        reader = record { page = c.requires.reader.page; count = c.requires.reader.count; fault = c.requires.reader.fault; zeros = nothing_known (compresses c.args.self.now) c.args.self.now.left c.args.self.now.input.rest n };
        counted = sym c.can_count.ensures ∙ c.if-not-can_count.false;
        none_ready = c.requires.none_ready;
        no_fault = c.in_default.is;
      };
      ends = inr (n, refl);
    })

pub returns-then-not-can_count-clause-certain : goal.returns-then-not-can_count-clause-certain
returns-then-not-can_count-clause-certain c n k = inr (lacks_count c.args.self.now n (sym c.can_count.ensures ∙ c.if-not-can_count.true) k)

pub returns-in-Zeros-clause-kept : goal.returns-in-Zeros-clause-kept
returns-in-Zeros-clause-kept c n k =
    kept_passed c.args.self.now _ c.args.self.now.left 0 n c.pass.ensures (omega (arith, c.in-Zeros.ensures.fits, ap length c.rest.ensures)) c.requires.reader.page (omega arith) (omega arith) (omega arith) k

pub returns-in-Wrong-clause-kept : goal.returns-in-Wrong-clause-kept
returns-in-Wrong-clause-kept c n k =
    let e = c.fail.ensures.new in
    kept_same c.args.self.now c.fail.new.self n (ap (λ (r : Reader). r.input) e) (omega (arith, ap (λ (r : Reader). length r.begun.items) e)) (omega (arith, ap (λ (r : Reader). vec_capacity r.begun) e)) (ap (λ (r : Reader). r.passed) e) k

pub returns-in-Nothing-clause-kept : goal.returns-in-Nothing-clause-kept
returns-in-Nothing-clause-kept c n k = c.pause.ensures.kept n (kept_same c.args.self.now _ n refl (omega arith) (omega arith) refl k)
