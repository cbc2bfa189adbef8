use Rattle.std.proofs.Common.{◌≤◌, ◌^◌, length, arith}
use Rattle.rw_write_request.specs.Canon.{canon}
use Rattle.rw_types.proofs.shared.FittingLemmas.{none_is}
use Rattle.rw_batch.specs.Grouping.{message}
use Rattle.rw_batch.specs.inner.Grouping.{series_at}
use Rattle.rw_batch.proofs.BodyLemmas.{len_of_parts, series_fits, series_more}
use Rattle.rw_batch.proofs.body.body_len.Goals as goal

pub returns-in_err-series_len-clause-none : goal.returns-in_err-series_len-clause-none
returns-in_err-series_len-clause-none c =
    let xs = c.args.rows.now.samples in
    let part = series_fits xs c.loop-place.place (omega arith) in
    let long : 2 ^ 64 ≤ length (canon (message xs)) = omega (arith, part, len_of_parts (series_at xs c.loop-place.place), c.in_err-series_len.ensures.none) in
    none_is _ _ long

pub returns-in_err-total-clause-none : goal.returns-in_err-total-clause-none
returns-in_err-total-clause-none c =
    let xs = c.args.rows.now.samples in
    let part = series_fits xs c.loop-place.place (omega arith) in
    let long : 2 ^ 64 ≤ length (canon (message xs)) = omega (arith, part, len_of_parts (series_at xs c.loop-place.place), c.in_ok-series_len.ensures.some, c.loop-place.invariant, c.in_err-total.ensures) in
    none_is _ _ long

pub loop-place-preserved : goal.loop-place-preserved
loop-place-preserved c =
    let xs = c.args.rows.now.samples in
    omega (arith, series_more xs c.loop-place.place (omega arith), len_of_parts (series_at xs c.loop-place.place), c.in_ok-series_len.ensures.some, c.loop-place.invariant, c.in_ok-total.ensures)
