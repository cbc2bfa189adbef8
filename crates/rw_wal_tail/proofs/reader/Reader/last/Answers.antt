use Rattle.std.proofs.Common.{◌∙◌, ◌++◌, ℕ, List, true, false, ap, sym, arith, Some, refl, ◌≡◌, length, ◌+◌, ◌<◌, ◌^◌, ◌≤◌, length-append}
use Rattle.rw_wal_format.specs.Segments.{last, flagged}
use Rattle.rw_wal_format.specs.declared.tail_fault.TailFault.TheVariants.{BadRecord}
use Rattle.rw_wal_tail.specs.declared.reader.Reader.{Reader}
use Rattle.rw_wal_tail.proofs.StepLaws.{Advanced, Failing, data_of, data_length, read_as, same_whole, bad_whole, joins_last}
use Rattle.std.specs.Prelude.{vec_capacity}
use Rattle.rw_wal_tail.specs.inner.Steps.{compresses, open_of, data_at_front}
use Rattle.rw_wal_tail.proofs.KeptLaws.{kept_same, kept_passed, has_room, lacks_last, skip_within, back_again, same_data, open_as}
use Rattle.rw_wal_tail.proofs.reader.Reader.last.Goals as goal

pub returns-in-Ok-false-clause-same : goal.returns-in-Ok-false-clause-same
returns-in-Ok-false-clause-same c =
    let e = c.fail.ensures.new in
    let d = data_of c.args.len c.args.self.now.input.rest c.rest.result.now c.fragment_data.result.now c.fragment_data.ensures c.rest.ensures in
    let w = c.as_slice.ensures.value ∙ c.in_ok-extend_from_slice.ensures.items ∙ ap (λ (l : List ℕ). c.args.self.now.begun.items ++ l) d in
    let q = ap (λ (l : List ℕ). (c.args.self.now.is_block, l)) w in
    let r = read_as _ _ c.args.self.now.passed c.read_whole.new.ready.items c.read_whole.new.passed c.in-Ok-false.field-0 false q c.in-Ok-false.field-0-test c.in-Ok-false.ensures.ok in
    let a : Failing c.args.self.now c.fail.new.self BadRecord = record { input = ap (λ (r : Reader). r.input) e; left = ap (λ (r : Reader). r.left) e; zeros = ap (λ (r : Reader). r.zeros) e; ready = ap (λ (r : Reader). r.ready.items) e ∙ r.1; passed = ap (λ (r : Reader). r.passed) e ∙ r.2; fault = ap (λ (r : Reader). r.fault) e; of_log = tt; mode = ap (λ (r : Reader). compresses r) e ∙ c.read_whole.ensures.same_decoder } in
    bad_whole c.args.self.now c.fail.new.self c.args.len (flagged c.args.self.now.is_block last) c.requires.can_step c.requires.found (c.args.self.now.is_block, c.args.self.now.begun.items ++ data_at_front c.args.len c.args.self.now) (joins_last c.args.self.now c.args.len c.requires) r.0 a

pub returns-clause-same : goal.returns-clause-same
returns-clause-same c =
    let e = c.advance.ensures in
    let few : length c.advance.new.self.passed < 2 ^ 60 = omega (arith, ap (λ (x : Reader). length x.passed) e, c.read_whole.ensures.count) in
    let d = data_of c.args.len c.args.self.now.input.rest c.rest.result.now c.fragment_data.result.now c.fragment_data.ensures c.rest.ensures in
    let w = c.as_slice.ensures.value ∙ c.in_ok-extend_from_slice.ensures.items ∙ ap (λ (l : List ℕ). c.args.self.now.begun.items ++ l) d in
    let q = ap (λ (l : List ℕ). (c.args.self.now.is_block, l)) w in
    let r = read_as _ _ c.args.self.now.passed c.read_whole.new.ready.items c.read_whole.new.passed c.in-Ok-true.field-0 true q c.in-Ok-true.field-0-test c.in-Ok-true.ensures.ok in
    let a : Advanced c.args.self.now c.advance.new.self c.args.len = record { input = ap (λ (r : Reader). r.input) e; left = ap (λ (r : Reader). r.left) e; zeros = ap (λ (r : Reader). r.zeros) e; fault = ap (λ (r : Reader). r.fault) e; mode = ap (λ (r : Reader). compresses r) e ∙ c.read_whole.ensures.same_decoder } in
    same_whole c.args.self.now c.advance.new.self c.args.len a (flagged c.args.self.now.is_block last) c.requires.can_step c.requires.whole c.requires.found (c.args.self.now.is_block, c.args.self.now.begun.items ++ data_at_front c.args.len c.args.self.now) (joins_last c.args.self.now c.args.len c.requires)
    (ap (λ (x : Reader). open_of x) e) few
    (r.0, r.1, r.2 ∙ ap (λ (x : Reader). Some x.ready.items) (sym e), ap (λ (x : Reader). x.passed) e ∙ r.3)

pub returns-in_err-extend_from_slice-clause-kept : goal.returns-in_err-extend_from_slice-clause-kept
returns-in_err-extend_from_slice-clause-kept c n k =
    kept_same c.args.self.now _ n refl (omega (arith, ap length c.in_err-extend_from_slice.ensures.items)) c.extend_from_slice.ensures.capacity refl k

pub returns-in_err-extend_from_slice-clause-certain : goal.returns-in_err-extend_from_slice-clause-certain
returns-in_err-extend_from_slice-clause-certain c n k =
    let d = data_of c.args.len c.args.self.now.input.rest c.rest.result.now c.fragment_data.result.now c.fragment_data.ensures c.rest.ensures in
    absurd (omega (arith, has_room c.args.self.now c.args.len n c.fragment_data.result.now c.requires.whole d k, c.in_err-extend_from_slice.ensures.full, c.args.self.now.begun.ok.0))

pub returns-clause-kept : goal.returns-clause-kept
returns-clause-kept c n k =
    let e = c.advance.ensures in
    let d = data_of c.args.len c.args.self.now.input.rest c.rest.result.now c.fragment_data.result.now c.fragment_data.ensures c.rest.ensures in
    let l : length c.advance.new.self.begun.items ≤ length c.args.self.now.begun.items + c.args.len =
    omega (arith, ap (λ (r : Reader). length r.begun.items) e, ap length c.in_ok-extend_from_slice.ensures.items, length-append c.args.self.now.begun.items c.fragment_data.result.now, ap length d, data_length c.args.len c.args.self.now.input.rest c.requires.whole) in
    let r = read_as _ _ c.args.self.now.passed c.read_whole.new.ready.items c.read_whole.new.passed c.in-Ok-true.field-0 true refl c.in-Ok-true.field-0-test c.in-Ok-true.ensures.ok in
    kept_passed c.args.self.now c.advance.new.self (7 + c.args.len) c.args.len n (ap (λ (r : Reader). r.input) e) c.requires.whole (omega arith) l
    (omega (arith, ap (λ (r : Reader). vec_capacity r.begun) e, c.extend_from_slice.ensures.capacity)) (skip_within c.args.self.now.passed c.advance.new.self.passed r.0 (ap (λ (r : Reader). r.passed) e ∙ r.3)) k

pub returns-in-Err-clause-same : goal.returns-in-Err-clause-same
returns-in-Err-clause-same c =
    let old = c.args.self.now in
    let n0 : c.len-before.result ≡ length old.begun.items = omega (arith, c.len-before.ensures, old.begun.ok.0) in
    let same = back_again old.begun.items c.fragment_data.result.now c.extend_from_slice.new.self.items c.truncate-in-Err.new.self.items c.len-before.result c.truncate-in-Err.ensures.items c.in_ok-extend_from_slice.ensures.items n0 in
    same_data old _ c.requires.can_step.reader refl refl refl (c.in-Err.ensures.err.0 ∙ sym c.requires.can_step.none_ready) c.in-Err.ensures.err.1 refl (open_as old _ same) c.read_whole.ensures.same_decoder

pub returns-in-Err-clause-certain : goal.returns-in-Err-clause-certain
returns-in-Err-clause-certain c n k =
    let d = data_of c.args.len c.args.self.now.input.rest c.rest.result.now c.fragment_data.result.now c.fragment_data.ensures c.rest.ensures in
    let w = c.as_slice.ensures.value ∙ c.in_ok-extend_from_slice.ensures.items ∙ ap (λ (l : List ℕ). c.args.self.now.begun.items ++ l) d in
    lacks_last c.args.self.now _ c.args.len n c.as_slice.result.now (returns-in-Err-clause-same c) c.requires k w c.in-Err.ensures.certain
