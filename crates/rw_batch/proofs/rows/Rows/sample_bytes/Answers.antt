use Rattle.std.proofs.Common.{◌<◌, length, ap, ◌∙◌, arith}
use Rattle.rw_write_request.specs.Canon.{sample_fields}
use Rattle.rw_batch.specs.Grouping.{message}
use Rattle.rw_batch.specs.inner.Grouping.{series_at}
use Rattle.rw_batch.specs.inner.Kept.{Rowed}
use Rattle.rw_batch.proofs.RowLemmas.{as_many, line_here}
use Rattle.rw_batch.proofs.rows.Rows.sample_bytes.Goals as goal

pub index-requires : goal.index-requires
index-requires c =
    omega (
      arith,
      c.requires,
      ap (λ (r : Rowed). length (message r.samples)) c.self.view_is,
      c.self.inside.lines.ok.0,
      as_many c.self.inside.samples c.self.inside.before.items (message c.self.inside.samples) c.self.inside.lines.items c.self.invariant.lines_are,
    )

pub returns : goal.returns
returns c =
    let lt : c.args.place < length (message c.self.inside.samples) = omega (arith, c.requires, ap (λ (r : Rowed). length (message r.samples)) c.self.view_is) in
    let line = line_here c.self.inside.samples c.self.inside.before.items c.self.inside.lines.items c.args.place c.index.result.now c.self.invariant.lines_are lt c.index.ensures in
    line.bytes ∙ ap (λ (r : Rowed). length (sample_fields (series_at r.samples c.args.place).samples)) c.self.view_is
