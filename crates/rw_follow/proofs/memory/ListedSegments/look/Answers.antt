use Rattle.std.proofs.Common.{arith, sym}
use Rattle.std.proofs.lemmas.Grind.{common_steps}
use Rattle.rw_follow.specs.Growth.{IsLastSegment}
use Rattle.rw_follow.proofs.GrowthLemmas.{had_all, read_same}
use Rattle.rw_follow.proofs.memory.ListedSegments.look.Goals as goal

pub returns-in_err-play-clause-stays : goal.returns-in_err-play-clause-stays
returns-in_err-play-clause-stays c = λ start meal h. read_same start _ _ meal c.play.ensures h

pub returns-then-not-is_empty-clause-stays : goal.returns-then-not-is_empty-clause-stays
returns-then-not-is_empty-clause-stays c = λ start meal h. read_same start _ _ meal c.play.ensures h

pub returns-clause-stays : goal.returns-clause-stays
returns-clause-stays c = λ start meal h. read_same start _ _ meal c.play.ensures h

pub returns-clause-nothing : goal.returns-clause-nothing
returns-clause-nothing c = λ _. rw (sym c.self.view_is) (let e = c.is_empty.ensures in let b = c.if-not-is_empty.false in grind (arith, common_steps))

pub returns-clause-all : goal.returns-clause-all
returns-clause-all c = λ _ is_read start meal h.
    let last : IsLastSegment c.play.new.self = rw (sym c.self.view_is) (let e = c.is_empty.ensures in let b = c.if-not-is_empty.false in grind (arith, common_steps)) in
    had_all _ _ meal c.play.ensures h.given is_read last
