use Rattle.std.proofs.Common.{◌<◌, length, map, ap, ◌∙◌, arith}
use Rattle.std.specs.Arc.{arc_value}
use Rattle.rw_batch.specs.Grouping.{message}
use Rattle.rw_batch.specs.inner.Grouping.{series_at}
use Rattle.rw_batch.specs.inner.Kept.{Rowed}
use Rattle.rw_batch.proofs.RowLemmas.{labels_here}
use Rattle.rw_batch.proofs.rows.Rows.labels.Goals as goal

pub returns : goal.returns
returns c =
    let lt : c.args.place < length (message c.self.inside.samples) = omega (arith, c.requires, ap (λ (r : Rowed). length (message r.samples)) c.self.view_is) in
    c.deref.ensures ∙ labels_here c.self.inside.samples c.as_slice.result.now c.args.place c.index-as_slice-place.result (ap (map arc_value) c.as_slice.ensures.keys ∙ c.self.invariant.labels_are) lt c.index-as_slice-place.is
    ∙ ap (λ (r : Rowed). (series_at r.samples c.args.place).labels) c.self.view_is
