use Rattle.std.proofs.Common.{◌≡◌, ◌≤◌, ◌^◌, length, ap, ◌∙◌, arith, rules}
use Rattle.std.specs.Prelude.{FitsSigned}
use Rattle.std.specs.Int.{w64}
use Rattle.rw_write_request.specs.Canon.{sample_field, sample_fields}
use Rattle.rw_types.proofs.shared.FittingLemmas.{none_is, part_fits}
use Rattle.rw_write_request.proofs.shared.Spelled.{same-sample-field}
use Rattle.rw_write_request.proofs.lengths.sample_fields_len.Goals as goal

pub returns-in_err-total-clause-none : goal.returns-in_err-total-clause-none
returns-in_err-total-clause-none c =
    let fits : FitsSigned w64 c.loop-word-item.result.1 = search rules in
    let field : c.sample_field_len.result ≡ length (sample_field c.loop-word-item.result) = c.sample_field_len.ensures.exact ∙ ap length (same-sample-field c.loop-word-item.result.0 c.loop-word-item.result.1 fits) in
    let part = part_fits sample_field c.args.samples.now c.loop-word.word-index c.loop-word-item.result c.loop-word-test.true c.loop-word-item.is in
    let long : 2 ^ 64 ≤ length (sample_fields c.args.samples.now) = omega (arith, part, field, c.loop-word.invariant, c.in_err-total.ensures) in
    none_is _ _ long
