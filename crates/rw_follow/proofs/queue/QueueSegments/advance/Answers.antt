use Rattle.std.proofs.Common.{sym}
use Rattle.rw_follow.proofs.QueueLemmas.{next_of}
use Rattle.rw_follow.proofs.queue.QueueSegments.advance.Goals as goal

pub returns-clause-steps : goal.returns-clause-steps
returns-clause-steps g c = λ start meal h.
    next_of g.S.Source.remaining _ _ _ _ _ start _ _ (sym c.self.view_is) c.pop_front.ensures.items c.pop_front.ensures.rest c.requires.followed c.requires.read h
