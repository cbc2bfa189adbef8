use Rattle.std.proofs.Common.{sym}
use Rattle.std.proofs.lemmas.List.{map-append}
use Rattle.rw_follow.proofs.GrowthLemmas.{later_same, later_next}
use Rattle.rw_follow.proofs.memory.Listed.begin.Goals as goal

pub returns-in_default : goal.returns-in_default
returns-in_default c = rw (sym c.self.view_is, c.in_default.ensures.items) (later_same _)

pub returns : goal.returns
returns c = rw (sym c.self.view_is, c.in-Ok.ensures.items, map-append) (later_next _ _)
