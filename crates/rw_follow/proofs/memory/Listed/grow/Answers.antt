use Rattle.std.proofs.Common.{sym, arith}
use Rattle.std.proofs.lemmas.Grind.{common_steps}
use Rattle.rw_follow.proofs.GrowthLemmas.{later_same, later_more}
use Rattle.rw_follow.proofs.memory.Listed.grow.Goals as goal

pub returns-then-not-is_empty : goal.returns-then-not-is_empty
returns-then-not-is_empty c = rw (sym c.self.view_is) (later_same _)

pub returns-in_default : goal.returns-in_default
returns-in_default c = rw (sym c.self.view_is, c.in_default.ensures.items) (later_same _)

pub returns : goal.returns
returns c = rw (sym c.self.view_is, c.in-Ok.ensures.items) (later_more _ _ (let e = c.is_empty.ensures in let b = c.if-not-is_empty.false in grind (arith, common_steps)))
