use Rattle.std.proofs.Common.{int_lt, w64, to_z, of_z, FitsSigned, ap, sym, ◌∙◌, rules}
use Rattle.std.proofs.Math.Facts.{to_z-of_z}
use Rattle.rw_head.specs.Order.{is_later}
use Rattle.rw_head.proofs.ForgettingLemmas.{later_some, later_none}
use Rattle.rw_head.proofs.forgotten.Forgotten.is_later.Goals as goal

pub returns-in-Some : goal.returns-in-Some
returns-in-Some c =
    let fits : FitsSigned w64 c.in-Some.last = search rules in
    ap (λ z. int_lt z (to_z w64 (of_z w64 c.args.t))) (to_z-of_z fits) ∙ ap (int_lt c.in-Some.last) (to_z-of_z c.ranges.t)
    ∙ sym (later_some c.args.t c.in-Some.last c.self.inside.samples (sym c.self.invariant ∙ c.in-Some.is)) ∙ ap (is_later c.args.t) c.self.view_is

pub returns-in-None : goal.returns-in-None
returns-in-None c = sym (later_none c.args.t c.self.inside.samples (sym c.self.invariant ∙ c.in-None.is)) ∙ ap (is_later c.args.t) c.self.view_is
