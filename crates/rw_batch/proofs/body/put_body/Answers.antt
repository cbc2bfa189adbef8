use Rattle.std.proofs.Common.{◌<◌, ◌^◌, List, length, subst, arith}
use Rattle.std.specs.List.{AllByRecursion}
use Rattle.rw_write_request.specs.Canon.{canon}
use Rattle.rw_write_request.specs.Message.{Sample}
use Rattle.rw_write_request.specs.Valid.{IsValidSample}
use Rattle.rw_write_request.proofs.shared.Spelled.{canon-spelled}
use Rattle.rw_batch.specs.Grouping.{message}
use Rattle.rw_batch.specs.inner.Kept.{samples_alone}
use Rattle.rw_batch.proofs.BodyLemmas.{message_valid}
use Rattle.rw_batch.proofs.body.put_body.Goals as goal

pub put_all_series-requires-clause-fits : goal.put_all_series-requires-clause-fits
put_all_series-requires-clause-fits c = omega (arith, c.requires.room, c.args.out.now.ok.0, c.args.out.now.ok.1, c.args.out.now.small)

pub returns-clause-spells : goal.returns-clause-spells
returns-clause-spells c =
    let xs = c.args.rows.now.samples in
    let short : length (canon (message xs)) < 2 ^ 64 = omega (arith, c.requires.room, c.args.out.now.ok.0, c.args.out.now.ok.1, c.args.out.now.small) in
    let samples : AllByRecursion IsValidSample (samples_alone xs) = subst (λ (ss : List Sample). AllByRecursion IsValidSample ss) c.requires.same c.len.ensures.valid in
    canon-spelled (message xs) (record { series = message_valid xs samples c.put_all_series.ensures.labels; short = short })
