use Rattle.std.proofs.Common.{arith}
use Rattle.rw_batch.proofs.BodyLemmas.{series_fits}
use Rattle.rw_types.proofs.shared.FittingLemmas.{len_of}
use Rattle.rw_batch.proofs.body.put_all_series.Goals as goal

pub put_series-requires-clause-fits : goal.put_series-requires-clause-fits
put_series-requires-clause-fits c = omega (arith, series_fits c.args.rows.now.samples c.loop-place.place (omega arith), c.requires.fits)

pub put_series-requires-clause-room : goal.put_series-requires-clause-room
put_series-requires-clause-room c =
    let len = len_of _ _ _ _ _ c.loop-place.invariant.items c.loop-place.out.ok.0 c.args.out.now.ok.0 in
    omega (arith, series_fits c.args.rows.now.samples c.loop-place.place (omega arith), c.requires.room, c.loop-place.invariant.capacity, len)
