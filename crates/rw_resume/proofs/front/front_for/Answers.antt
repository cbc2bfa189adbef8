use Rattle.std.proofs.Common.{List, ℕ, sym, subst}
use Rattle.rw_resume.specs.Goings.{IsInPlaceOf}
use Rattle.rw_resume.proofs.FillingLemmas.{nothing_in_place}
use Rattle.rw_resume.proofs.front.front_for.Goals as goal

pub returns-then-len-eq0 : goal.returns-then-len-eq0
returns-then-len-eq0 c = subst (λ (front : List ℕ). IsInPlaceOf c.args.count front) (sym c.new.ensures.items) (nothing_in_place c.args.count c.if-len-eq0.true)
