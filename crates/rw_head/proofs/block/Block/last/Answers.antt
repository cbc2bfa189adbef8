use Rattle.std.proofs.Common.{Some, get_or, w64, FitsSigned, sym, subst, ap, ◌∙◌, rules}
use Rattle.std.proofs.Math.Facts.{to_z-of_z}
use Rattle.rw_head.specs.Forgetting.{last_time}
use Rattle.rw_head.proofs.ForgettingLemmas.{last_time-at}
use Rattle.rw_head.proofs.block.Block.last.Goals as goal

pub returns : goal.returns
returns c =
    let x = c.index-self-119.result in
    let fits : FitsSigned w64 x.0 = search rules in
    let same : FitsSigned w64 (get_or c.self.inside.samples 119 x).0 = subst (λ y. FitsSigned w64 y.0) c.index-self-119.is fits in
    ap last_time (sym c.self.view_is) ∙ last_time-at c.self.inside.samples 119 x c.self.invariant c.index-self-119.is
    ∙ ap (λ y. Some y.0) c.index-self-119.is ∙ ap Some (sym (to_z-of_z same))
