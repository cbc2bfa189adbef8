use Rattle.std.proofs.Common.{◌∙◌, ℕ, List, Bool, true, false, ap, sym, arith, Some, refl, length, ◌+◌, ◌<◌, ◌^◌}
use Rattle.rw_wal_format.specs.Segments.{full, flagged}
use Rattle.rw_wal_format.specs.declared.tail_fault.TailFault.TheVariants.{BadRecord}
use Rattle.rw_wal_tail.specs.declared.reader.Reader.{Reader}
use Rattle.rw_wal_tail.specs.inner.Still.{open_data}
use Rattle.rw_wal_tail.proofs.StepLaws.{Advanced, Failing, data_of, read_as, same_whole, bad_whole, joins_full}
use Rattle.std.specs.Prelude.{vec_capacity}
use Rattle.rw_wal_tail.specs.inner.Steps.{Same, compresses, open_of, data_at_front}
use Rattle.rw_wal_tail.proofs.KeptLaws.{kept_same, kept_passed, lacks_full, skip_within, same_data}
use Rattle.rw_wal_tail.proofs.reader.Reader.full.Goals as goal
use Rattle.rw_types.proofs.shared.AnswerLemmas.{OnErr-always}

pub returns-then-not-branch-clause-same : goal.returns-then-not-branch-clause-same
returns-then-not-branch-clause-same c =
    let e = c.fail.ensures.new in
    let d = data_of c.args.len c.args.self.now.input.rest c.rest.result.now c.fragment_data-data.result.now c.fragment_data-data.ensures c.rest.ensures in
    let q = ap (λ (l : List ℕ). (c.args.is_block, l)) d in
    let r = read_as _ _ c.args.self.now.passed c.read_whole.new.ready.items c.read_whole.new.passed c.in_ok-read_whole.field-0 false q c.if-not-branch.true c.in_ok-read_whole.ensures.ok in
    let a : Failing c.args.self.now c.fail.new.self BadRecord = record { input = ap (λ (r : Reader). r.input) e; left = ap (λ (r : Reader). r.left) e; zeros = ap (λ (r : Reader). r.zeros) e; ready = ap (λ (r : Reader). r.ready.items) e ∙ r.1; passed = ap (λ (r : Reader). r.passed) e ∙ r.2; fault = ap (λ (r : Reader). r.fault) e; of_log = tt; mode = ap (λ (r : Reader). compresses r) e ∙ c.read_whole.ensures.same_decoder } in
    bad_whole c.args.self.now c.fail.new.self c.args.len (flagged c.args.is_block full) c.requires.can_step c.requires.found (c.args.is_block, data_at_front c.args.len c.args.self.now) (joins_full c.args.self.now c.args.is_block c.args.len c.requires) r.0 a

pub returns-clause-same : goal.returns-clause-same
returns-clause-same c =
    let e = c.advance.ensures in
    let few : length c.advance.new.self.passed < 2 ^ 60 = omega (arith, ap (λ (x : Reader). length x.passed) e, c.read_whole.ensures.count) in
    let d = data_of c.args.len c.args.self.now.input.rest c.rest.result.now c.fragment_data-data.result.now c.fragment_data-data.ensures c.rest.ensures in
    let q = ap (λ (l : List ℕ). (c.args.is_block, l)) d in
    let r = read_as _ _ c.args.self.now.passed c.read_whole.new.ready.items c.read_whole.new.passed c.in_ok-read_whole.field-0 true q c.if-not-branch.false c.in_ok-read_whole.ensures.ok in
    let a : Advanced c.args.self.now c.advance.new.self c.args.len = record { input = ap (λ (r : Reader). r.input) e; left = ap (λ (r : Reader). r.left) e; zeros = ap (λ (r : Reader). r.zeros) e; fault = ap (λ (r : Reader). r.fault) e; mode = ap (λ (r : Reader). compresses r) e ∙ c.read_whole.ensures.same_decoder } in
    same_whole c.args.self.now c.advance.new.self c.args.len a (flagged c.args.is_block full) c.requires.can_step c.requires.whole c.requires.found (c.args.is_block, data_at_front c.args.len c.args.self.now) (joins_full c.args.self.now c.args.is_block c.args.len c.requires)
    (ap (λ (x : Reader). open_of x) e ∙ ap (λ (b : Bool). open_data b c.args.self.now.is_block c.args.self.now.begun.items) c.requires.in_order) few
    (r.0, r.1, r.2 ∙ ap (λ (x : Reader). Some x.ready.items) (sym e), ap (λ (x : Reader). x.passed) e ∙ r.3)

pub returns-in_err-read_whole-clause-same : goal.returns-in_err-read_whole-clause-same
returns-in_err-read_whole-clause-same c =
    same_data c.args.self.now _ c.requires.can_step.reader refl refl refl (c.in_err-read_whole.ensures.err.0 ∙ sym c.requires.can_step.none_ready) c.in_err-read_whole.ensures.err.1 refl refl c.read_whole.ensures.same_decoder

pub returns-in_err-read_whole-clause-kept : goal.returns-in_err-read_whole-clause-kept
returns-in_err-read_whole-clause-kept c n k = kept_same c.args.self.now _ n refl (omega arith) (omega arith) c.in_err-read_whole.ensures.err.1 k

pub returns-in_err-read_whole-clause-certain : goal.returns-in_err-read_whole-clause-certain
returns-in_err-read_whole-clause-certain c n k =
    let d = data_of c.args.len c.args.self.now.input.rest c.rest.result.now c.fragment_data-data.result.now c.fragment_data-data.ensures c.rest.ensures in
    let s : Same c.args.self.now (record c.args.self.now { decoder = c.read_whole.new.decoder; ready = c.read_whole.new.ready; passed = c.read_whole.new.passed }) =
    same_data c.args.self.now _ c.requires.can_step.reader refl refl refl (c.in_err-read_whole.ensures.err.0 ∙ sym c.requires.can_step.none_ready) c.in_err-read_whole.ensures.err.1 refl refl c.read_whole.ensures.same_decoder in
    OnErr-always c.from_residual.result (lacks_full c.args.self.now _ c.args.is_block c.args.len n c.fragment_data-data.result.now s c.requires k d c.in_err-read_whole.ensures.certain)

pub returns-then-not-branch-clause-kept : goal.returns-then-not-branch-clause-kept
returns-then-not-branch-clause-kept c n k =
    let e = c.fail.ensures.new in
    let r = read_as _ _ c.args.self.now.passed c.read_whole.new.ready.items c.read_whole.new.passed c.in_ok-read_whole.field-0 false refl c.if-not-branch.true c.in_ok-read_whole.ensures.ok in
    kept_same c.args.self.now c.fail.new.self n (ap (λ (r : Reader). r.input) e) (omega (arith, ap (λ (r : Reader). length r.begun.items) e)) (omega (arith, ap (λ (r : Reader). vec_capacity r.begun) e)) (ap (λ (r : Reader). r.passed) e ∙ r.2) k

pub returns-clause-kept : goal.returns-clause-kept
returns-clause-kept c n k =
    let e = c.advance.ensures in
    let r = read_as _ _ c.args.self.now.passed c.read_whole.new.ready.items c.read_whole.new.passed c.in_ok-read_whole.field-0 true refl c.if-not-branch.false c.in_ok-read_whole.ensures.ok in
    kept_passed c.args.self.now c.advance.new.self (7 + c.args.len) 0 n (ap (λ (r : Reader). r.input) e) c.requires.whole (omega arith) (omega (arith, ap (λ (r : Reader). length r.begun.items) e))
    (omega (arith, ap (λ (r : Reader). vec_capacity r.begun) e)) (skip_within c.args.self.now.passed c.advance.new.self.passed r.0 (ap (λ (r : Reader). r.passed) e ∙ r.3)) k
