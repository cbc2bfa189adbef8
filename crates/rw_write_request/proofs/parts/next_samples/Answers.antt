use Rattle.std.proofs.Common.{◌<◌, ◌++◌, List, length, refl, sym, ap, ◌∙◌, arith, rules}
use Rattle.std.proofs.lemmas.List.{append-nil}
use Rattle.std.proofs.lemmas.Result.{err_from_is_err_and}
use Rattle.rw_write_request.specs.declared.kind.Kind.TheVariants as kinds
use Rattle.rw_write_request.specs.Message.{Sample, TimeSeries}
use Rattle.rw_write_request.specs.Parts.{series_on}
use Rattle.rw_write_request.specs.inner.View.{field_view}
use Rattle.rw_write_request.specs.Read.{series_step}
use Rattle.rw_write_request.proofs.Loop.{bad_field, bad_step, field-shorter}
use Rattle.rw_write_request.proofs.ReadOn.{goes_further, not_both}
use Rattle.rw_write_request.proofs.parts.next_samples.Goals as goal

pub loop-init : goal.loop-init
loop-init c = record {
  shorter = omega arith;
  found = λ before whole is. (
    before.labels,
    ap (λ (ss : List Sample). series_on (record { labels = before.labels; samples = ss }) c.args.bytes.now)
        (ap (λ (xs : List Sample). before.samples ++ xs) c.clear.ensures.items ∙ append-nil before.samples) ∙ is,
  );
  few = omega (arith, ap (λ (xs : List Sample). length xs) c.clear.ensures.items);
}

pub returns-in_err-part-clause-fault : goal.returns-in_err-part-clause-fault
returns-in_err-part-clause-fault c =
    let p = err_from_is_err_and c.from_residual.result c.from_residual.ensures.1 in
    let more : 0 < length c.loop.rest.now = search rules in
    let e = c.in_err-part.field-0.0 in
    rw (p.1, p.2) (λ _ before whole is.
    let l = c.loop.invariant.found before whole is in
    let so_far : TimeSeries = record { labels = l.0; samples = before.samples ++ c.loop.samples.items } in
    not_both (series_on so_far c.loop.rest.now) whole e l.1 (bad_field kinds.TimeSeries series_step so_far c.loop.rest.now e (series_on so_far c.loop.rest.now) more c.in_err-part.ensures refl))

pub returns-in_err-add_next-clause-fault : goal.returns-in_err-add_next-clause-fault
returns-in_err-add_next-clause-fault c =
    let p = err_from_is_err_and c.from_residual-in_err-add_next.result c.from_residual-in_err-add_next.ensures.1 in
    let more : 0 < length c.loop.rest.now = search rules in
    let e = c.in_err-add_next.field-0.0 in
    rw (p.1, p.2) (λ ne before whole is.
    let l = c.loop.invariant.found before whole is in
    let so_far : TimeSeries = record { labels = l.0; samples = before.samples ++ c.loop.samples.items } in
    not_both (series_on so_far c.loop.rest.now) whole e l.1
    (bad_step kinds.TimeSeries series_step so_far c.loop.rest.now (field_view c.in_ok-part.part) c.in_ok-part.after.now e (series_on so_far c.loop.rest.now) more c.in_ok-part.ensures (c.in_err-add_next.ensures.fault ne so_far) refl))

pub loop-preserved : goal.loop-preserved
loop-preserved c =
    let more : 0 < length c.loop.rest.now = search rules in
    let lt = field-shorter kinds.TimeSeries c.loop.rest.now (field_view c.in_ok-part.part, c.in_ok-part.after.now) c.in_ok-part.ensures in
    record {
      shorter = omega (arith, lt, c.loop.invariant.shorter);
      found = λ before whole is.
          let l = c.loop.invariant.found before whole is in
          let so_far : TimeSeries = record { labels = l.0; samples = before.samples ++ c.loop.samples.items } in
          let next = goes_further so_far (field_view c.in_ok-part.part) c.loop.rest.now c.in_ok-part.after.now whole more c.in_ok-part.ensures l.1 in
          let added = c.in_ok-add_next.ensures.found l.0 before.samples next.0 next.1 in
          (next.0.labels, ap (λ (ss : List Sample). series_on (record { labels = next.0.labels; samples = ss }) c.in_ok-part.after.now) (sym added) ∙ next.2);
      few = omega (arith, c.in_ok-add_next.ensures.one, c.loop.invariant.few);
    }
