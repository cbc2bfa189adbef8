use Rattle.std.proofs.Common.{◌≢◌, [], ◌∷◌, ◌++◌, refl, arith}
use Rattle.std.proofs.lemmas.Bool.{ne_eqb}
use Rattle.rw_write_request.specs.Read.{series_step}
use Rattle.rw_write_request.proofs.message_check.check_series_part.Goals as goal

pub returns-in_ok-nested_sample-in-2 : goal.returns-in_ok-nested_sample-in-2
unfolding series_step
returns-in_ok-nested_sample-in-2 c =
    let sample = c.in_ok-nested_sample-in-2.field-0 in
    let is = c.in_ok-nested_sample-in-2.ensures in
    λ series. (record { labels = series.labels; samples = series.samples ++ sample ∷ [] }, rw (c.in-2.is, is) refl)

pub returns-in_default : goal.returns-in_default
unfolding series_step
returns-in_default c =
    let n1 : c.args.part.number ≢ 1 = omega (arith, c.in_default) in
    let n2 : c.args.part.number ≢ 2 = omega (arith, c.in_default) in
    λ series. (series, rw (ne_eqb c.args.part.number 1 n1, ne_eqb c.args.part.number 2 n2) refl)
