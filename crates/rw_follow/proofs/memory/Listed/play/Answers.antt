use Rattle.std.proofs.Common.{sym}
use Rattle.rw_follow.proofs.GrowthLemmas.{later_gap, later_on, later_same}
use Rattle.rw_follow.proofs.memory.Listed.play.Goals as goal

pub returns-in-None : goal.returns-in-None
returns-in-None c = rw (sym c.self.view_is) (later_same _)

pub returns-in-Some-Quiet : goal.returns-in-Some-Quiet
returns-in-Some-Quiet c = rw (sym c.self.view_is) (later_same _)

pub returns-in-Some-Gap : goal.returns-in-Some-Gap
returns-in-Some-Gap c = rw (sym c.self.view_is) (later_gap _ _)

pub returns-in_ok-grow-in-Some-Turn : goal.returns-in_ok-grow-in-Some-Turn
returns-in_ok-grow-in-Some-Turn c = rw (sym c.self.view_is) (later_on _ _ _ c.grow-in-Some-Turn.ensures c.begin-in-Some-Turn.ensures)
