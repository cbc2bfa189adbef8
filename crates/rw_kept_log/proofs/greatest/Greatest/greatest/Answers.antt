use Rattle.std.proofs.Common.{◌∙◌, ap}
use Rattle.rw_kept_log.specs.Reading.{greatest_after}
use Rattle.rw_kept_log.specs.inner.Reading.{Watched}
use Rattle.rw_kept_log.proofs.greatest.Greatest.greatest.Goals as goal

pub returns : goal.returns
returns g c = c.self.invariant ∙ ap (λ (w : Watched g.row.T.Denot). greatest_after 0 (g.T.Taker.taken w.taker)) c.self.view_is
