use Rattle.std.proofs.Common.{Some, w64, FitsSigned, sym, ap, arith, ◌++◌, ◌∙◌, rules}
use Rattle.std.proofs.Math.Facts.{to_z-of_z}
use Rattle.rw_head.specs.Forgetting.{last_time}
use Rattle.rw_head.proofs.ForgettingLemmas.{last_time-append}
use Rattle.rw_head.proofs.forgotten.Forgotten.push.Goals as goal

pub invariant_of-self : goal.invariant_of-self
invariant_of-self c =
    let fits : FitsSigned w64 c.last.result = search rules in
    ap Some (to_z-of_z fits)
    ∙ sym (ap last_time (c.extend.ensures ∙ ap (λ xs. c.self.inside.samples ++ xs) c.samples.ensures.samples)
    ∙ last_time-append c.self.inside.samples c.args.block.now (omega (arith, c.samples.ensures.full)) ∙ c.last.ensures)
