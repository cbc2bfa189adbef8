use Rattle.std.proofs.Common.{◌≤◌, ◌^◌, ℕ, length, ap, arith}
use Rattle.rw_codes.specs.Varint.{uvarint}
use Rattle.rw_write_request.specs.Canon.{series_field, canon}
use Rattle.rw_write_request.proofs.shared.Spelled.{series-field-length}
use Rattle.rw_types.proofs.shared.FittingLemmas.{none_is, part_fits}
use Rattle.rw_write_request.proofs.lengths.all_series_len.Goals as goal

pub returns-in_err-inner-clause-none : goal.returns-in_err-inner-clause-none
returns-in_err-inner-clause-none c =
    let part = part_fits series_field c.args.list.now c.loop-s.s-index c.s-item.result c.loop-s-test.true c.s-item.is in
    let long : 2 ^ 64 ≤ length (canon c.args.list.now) = omega (arith, part, series-field-length c.s-item.result, c.in_err-inner.ensures.none) in
    none_is _ _ long

pub returns-in_err-field-clause-none : goal.returns-in_err-field-clause-none
returns-in_err-field-clause-none c =
    let part = part_fits series_field c.args.list.now c.loop-s.s-index c.s-item.result c.loop-s-test.true c.s-item.is in
    let same = ap (λ (n : ℕ). length (uvarint n)) c.in_ok-inner.ensures.some in
    let long : 2 ^ 64 ≤ length (canon c.args.list.now) = omega (arith, part, series-field-length c.s-item.result, c.in_ok-inner.ensures.some, same, c.in_err-field.ensures.none) in
    none_is _ _ long

pub returns-in_err-total-clause-none : goal.returns-in_err-total-clause-none
returns-in_err-total-clause-none c =
    let part = part_fits series_field c.args.list.now c.loop-s.s-index c.s-item.result c.loop-s-test.true c.s-item.is in
    let same = ap (λ (n : ℕ). length (uvarint n)) c.in_ok-inner.ensures.some in
    let long : 2 ^ 64 ≤ length (canon c.args.list.now) = omega (arith, part, series-field-length c.s-item.result, c.in_ok-inner.ensures.some, same, c.in_ok-field.ensures.some, c.loop-s.invariant, c.in_err-total.ensures) in
    none_is _ _ long
