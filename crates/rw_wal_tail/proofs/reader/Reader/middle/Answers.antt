use Rattle.std.proofs.Common.{◌∙◌, ◌++◌, ℕ, List, Bool, ap, refl, arith, length, ◌+◌, ◌≤◌, length-append, Some}
use Rattle.rw_wal_format.specs.Segments.{middle, flagged}
use Rattle.rw_wal_tail.specs.declared.reader.Reader.{Reader}
use Rattle.rw_wal_tail.specs.inner.Still.{open_data}
use Rattle.rw_wal_tail.specs.inner.Steps.{compresses, open_of, data_at_front}
use Rattle.rw_wal_tail.proofs.StepLaws.{Advanced, same_goes_on, data_of, data_length, joins_middle}
use Rattle.std.specs.Prelude.{vec_capacity}
use Rattle.rw_wal_tail.proofs.KeptLaws.{kept_same, kept_passed, has_room}
use Rattle.rw_wal_tail.proofs.reader.Reader.middle.Goals as goal

pub returns-clause-same : goal.returns-clause-same
returns-clause-same c =
    let e = c.advance.ensures in
    let a : Advanced c.args.self.now c.advance.new.self c.args.len = record { input = ap (λ (r : Reader). r.input) e; left = ap (λ (r : Reader). r.left) e; zeros = ap (λ (r : Reader). r.zeros) e; fault = ap (λ (r : Reader). r.fault) e; mode = ap (λ (r : Reader). compresses r) e } in
    let d = data_of c.args.len c.args.self.now.input.rest c.rest.result.now c.fragment_data.result.now c.fragment_data.ensures c.rest.ensures in
    let begun = c.in_ok-extend_from_slice.ensures.items ∙ ap (λ (l : List ℕ). c.args.self.now.begun.items ++ l) d in
    same_goes_on c.args.self.now c.advance.new.self c.args.len a (flagged c.args.self.now.is_block middle) c.requires.can_step c.requires.whole c.requires.found (c.args.self.now.is_block, c.args.self.now.begun.items ++ data_at_front c.args.len c.args.self.now) (joins_middle c.args.self.now c.args.len c.requires)
    (ap (λ (r : Reader). open_of r) e ∙ ap (λ (b : Bool). open_data b c.args.self.now.is_block c.extend_from_slice.new.self.items) c.requires.in_order ∙ ap (λ (l : List ℕ). Some (c.args.self.now.is_block, l)) begun) (ap (λ (r : Reader). r.ready.items) e) (ap (λ (r : Reader). r.passed) e)

pub returns-in_err-extend_from_slice-clause-kept : goal.returns-in_err-extend_from_slice-clause-kept
returns-in_err-extend_from_slice-clause-kept c n k =
    kept_same c.args.self.now _ n refl (omega (arith, ap length c.in_err-extend_from_slice.ensures.items)) c.extend_from_slice.ensures.capacity refl k

pub returns-in_err-extend_from_slice-clause-certain : goal.returns-in_err-extend_from_slice-clause-certain
returns-in_err-extend_from_slice-clause-certain c n k =
    let d = data_of c.args.len c.args.self.now.input.rest c.rest.result.now c.fragment_data.result.now c.fragment_data.ensures c.rest.ensures in
    absurd (omega (arith, has_room c.args.self.now c.args.len n c.fragment_data.result.now c.requires.whole d k, c.in_err-extend_from_slice.ensures.full, c.args.self.now.begun.ok.0))

pub returns-clause-kept : goal.returns-clause-kept
returns-clause-kept c n k =
    let e = c.advance.ensures in
    let d = data_of c.args.len c.args.self.now.input.rest c.rest.result.now c.fragment_data.result.now c.fragment_data.ensures c.rest.ensures in
    let l : length c.advance.new.self.begun.items ≤ length c.args.self.now.begun.items + c.args.len =
    omega (arith, ap (λ (r : Reader). length r.begun.items) e, ap length c.in_ok-extend_from_slice.ensures.items, length-append c.args.self.now.begun.items c.fragment_data.result.now, ap length d, data_length c.args.len c.args.self.now.input.rest c.requires.whole) in
    kept_passed c.args.self.now c.advance.new.self (7 + c.args.len) c.args.len n (ap (λ (r : Reader). r.input) e) c.requires.whole (omega arith) l
    (omega (arith, ap (λ (r : Reader). vec_capacity r.begun) e, c.extend_from_slice.ensures.capacity)) (omega (arith, ap (λ (r : Reader). length r.passed) e)) k
