use Rattle.std.proofs.Common.{sym}
use Rattle.rw_follow.proofs.QueueLemmas.{of_view, read_more, read_none}
use Rattle.rw_follow.proofs.queue.QueueSegments.read.Goals as goal

pub returns-in_default-read-clause-gives : goal.returns-in_default-read-clause-gives
returns-in_default-read-clause-gives g c = λ start meal h.
    read_none start _ _ _ _ _ c.in_default-read.ensures.bytes (of_view g.S.Source.remaining _ _ _ _ start _ _ (sym c.self.view_is) c.in-Some.is h)

pub returns-clause-gives : goal.returns-clause-gives
returns-clause-gives g c = λ start meal h.
    read_more start _ _ _ _ _ _ c.in-Ok.ensures.bytes.0 (of_view g.S.Source.remaining _ _ _ _ start _ _ (sym c.self.view_is) c.in-Some.is h)
