use Rattle.std.proofs.Common.{List, ℕ, length, ap, arith}
use Rattle.rw_follow.proofs.GrowthLemmas.{read_failed, read_on, stays_followed}
use Rattle.rw_follow.proofs.memory.ListedSegments.read.Goals as goal

pub returns-in_err-play-clause-gives : goal.returns-in_err-play-clause-gives
returns-in_err-play-clause-gives c = λ start meal h. read_failed _ _ _ start _ _ meal c.from_residual.ensures.1 c.play.ensures h

pub returns-in_err-play-clause-followed : goal.returns-in_err-play-clause-followed
returns-in_err-play-clause-followed c = stays_followed _ _ _ c.play.ensures

pub returns-clause-gives : goal.returns-clause-gives
returns-clause-gives c = λ start meal h. read_on _ _ start _ _ _ meal c.play.ensures c.give.ensures.gives c.give.ensures.others.0 c.give.ensures.others.1 h

pub returns-clause-followed : goal.returns-clause-followed
returns-clause-followed c = λ h.
    let l = stays_followed _ _ _ c.play.ensures h in
    let e = ap (λ (xs : List (List ℕ)). length xs) c.give.ensures.others.1 in
    omega (arith, l, e)
