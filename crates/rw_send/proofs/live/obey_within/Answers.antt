use Rattle.std.proofs.Common.{◌≡◌, None, Some, sym, ◌∙◌}
use Rattle.rw_send.proofs.OverLemmas.{as_reshards}
use Rattle.rw_send.proofs.live.obey_within.Goals as goal

pub returns-in-None-clause-reshards : goal.returns-in-None-clause-reshards
returns-in-None-clause-reshards g c = as_reshards _ _ _ _ _ _ c.obey.ensures

pub returns-in-None-clause-start : goal.returns-in-None-clause-start
returns-in-None-clause-start g c = c.obey.ensures.start

pub returns-in-Some-clause-goes : goal.returns-in-Some-clause-goes
returns-in-Some-clause-goes g c = λ none. absurd (let e : None ≡ Some c.in-Some.most = sym none ∙ c.in-Some.is in cc)
