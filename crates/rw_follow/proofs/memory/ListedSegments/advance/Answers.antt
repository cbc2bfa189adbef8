use Rattle.rw_follow.proofs.GrowthLemmas.{read_next}
use Rattle.rw_follow.proofs.memory.ListedSegments.advance.Goals as goal

pub returns-clause-steps : goal.returns-clause-steps
returns-clause-steps c = let s = c.in-Ok.ensures.ok in λ start meal h. read_next start _ _ meal s.0 s.1.0 s.1.1 c.requires.read h
