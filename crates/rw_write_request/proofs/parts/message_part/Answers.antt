use Rattle.std.proofs.Common.{◌≡◌, ◌≢◌, Err, refl, ap, arith, rules}
use Rattle.std.proofs.lemmas.Result.{err_from_is_err_and}
use Rattle.rw_write_request.specs.declared.fault.WireFault.TheVariants.{WrongWire}
use Rattle.rw_write_request.specs.declared.kind.Kind.TheVariants as kinds
use Rattle.rw_write_request.specs.inner.View.{content_view, field_view}
use Rattle.rw_write_request.specs.Parts.{read_on}
use Rattle.rw_write_request.specs.Read.{nested, read_series, request_step}
use Rattle.rw_write_request.proofs.Loop.{bad_field, field-shorter}
use Rattle.rw_write_request.proofs.ReadOn.{other_part, series_part, wrong_part}
use Rattle.rw_write_request.proofs.parts.message_part.Goals as goal

pub returns-in_err-part-clause-fault : goal.returns-in_err-part-clause-fault
returns-in_err-part-clause-fault c =
    let p = err_from_is_err_and c.from_residual.result c.from_residual.ensures.1 in
    rw (p.1, p.2) (λ m. bad_field kinds.WriteRequest request_step m c.args.bytes.now c.in_err-part.field-0.0 (read_on m c.args.bytes.now) c.requires c.in_err-part.ensures refl)

pub returns-then-part-ne1-clause-other : goal.returns-then-part-ne1-clause-other
returns-then-part-ne1-clause-other c =
    let ne : c.in_ok-part.part.number ≢ 1 = omega (arith, c.if-part-ne1.true) in
    λ _ m. other_part c.args.bytes.now (field_view c.in_ok-part.part) c.in_ok-part.rest.now m c.requires c.in_ok-part.ensures ne

pub returns-then-part-ne1-clause-shorter : goal.returns-then-part-ne1-clause-shorter
returns-then-part-ne1-clause-shorter c = field-shorter kinds.WriteRequest c.args.bytes.now (field_view c.in_ok-part.part, c.in_ok-part.rest.now) c.in_ok-part.ensures

pub returns-in-Bytes-clause-series : goal.returns-in-Bytes-clause-series
returns-in-Bytes-clause-series c =
    let one : c.in_ok-part.part.number ≡ 1 = omega (arith, c.if-part-ne1.false) in
    λ m. series_part c.args.bytes.now c.in-Bytes.series.now (field_view c.in_ok-part.part) c.in_ok-part.rest.now m c.requires c.in_ok-part.ensures one (ap content_view c.in-Bytes.is)

pub returns-in-Bytes-clause-shorter : goal.returns-in-Bytes-clause-shorter
returns-in-Bytes-clause-shorter c = field-shorter kinds.WriteRequest c.args.bytes.now (field_view c.in_ok-part.part, c.in_ok-part.rest.now) c.in_ok-part.ensures

pub returns-in_default : goal.returns-in_default
unfolding nested
returns-in_default c =
    let one : c.in_ok-part.part.number ≡ 1 = omega (arith, c.if-part-ne1.false) in
    let bad : nested read_series (content_view c.in_ok-part.part.held) ≡ Err WrongWire = search rules in
    record {
      series = tt;
      other = tt;
      fault = λ m. wrong_part c.args.bytes.now (field_view c.in_ok-part.part) c.in_ok-part.rest.now m c.requires c.in_ok-part.ensures one bad;
      shorter = tt;
    }
