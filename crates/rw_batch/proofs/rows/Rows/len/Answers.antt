use Rattle.std.proofs.Common.{length, ap, arith}
use Rattle.rw_batch.specs.Grouping.{message}
use Rattle.rw_batch.specs.inner.Kept.{Rowed}
use Rattle.rw_batch.proofs.RowLemmas.{as_many}
use Rattle.rw_batch.proofs.rows.Rows.len.Goals as goal

pub returns : goal.returns
returns c =
    omega (
      arith,
      c.len.ensures,
      c.self.inside.lines.ok.0,
      as_many c.self.inside.samples c.self.inside.before.items (message c.self.inside.samples) c.self.inside.lines.items c.self.invariant.lines_are,
      ap (λ (r : Rowed). length (message r.samples)) c.self.view_is,
    )
