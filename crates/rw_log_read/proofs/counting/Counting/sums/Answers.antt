use Rattle.std.proofs.Common.{◌++◌, ◌∙◌, ap, sym}
use Rattle.rw_log_read.specs.inner.Counted.{Counted}
use Rattle.rw_log_read.proofs.shared.HereLemmas.{counted_sums}
use Rattle.rw_log_read.proofs.counting.Counting.sums.Goals as goal

pub returns : goal.returns
returns g c more is =
    let taken = ap (λ (x : Counted g.row.T.Denot). g.T.Taker.taken x.taker) c.self.view_is in
    let before = ap (λ (x : Counted g.row.T.Denot). x.before ++ more) (sym c.self.view_is) in
    counted_sums _ _ _ more _ c.self.invariant (taken ∙ is ∙ before)
