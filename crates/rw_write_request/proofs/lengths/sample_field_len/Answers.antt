use Rattle.std.proofs.Common.{ap, length, ◌∙◌, arith}
use Rattle.rw_write_request.proofs.shared.Spelled.{same-sample, sample-field-parts}
use Rattle.rw_write_request.proofs.lengths.sample_field_len.Goals as goal

pub returns-clause-exact : goal.returns-clause-exact
returns-clause-exact c =
    let len = c.sample_len.ensures.exact ∙ ap length (same-sample c.args.word c.args.timestamp c.ranges.timestamp) in
    omega (arith, len, ap length (sample-field-parts (c.args.word, c.args.timestamp)))
