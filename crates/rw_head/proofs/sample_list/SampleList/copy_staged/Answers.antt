use Rattle.std.proofs.Common.{◌≡◌, ◌++◌, drop, OnOk, ap, subst, sym, ◌∙◌}
use Rattle.rw_head.specs.Lists.{more_of}
use Rattle.rw_head.proofs.ForgettingLemmas.{more_after_gone}
use Rattle.rw_head.proofs.sample_list.SampleList.copy_staged.Goals as goal

pub returns : goal.returns
returns c =
    let k = c.self.inside.kept in
    let xs = c.self.inside.samples in
    subst (λ ys. OnOk c.copy_from.result (c.copy_from.new.samples.items ≡ ys))
    (ap (λ ys. ys ++ drop k xs) c.clear.ensures.items ∙ sym (more_after_gone c.self.inside.gone xs k) ∙ ap more_of c.self.view_is) c.copy_from.ensures
