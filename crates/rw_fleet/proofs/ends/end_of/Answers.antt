use Rattle.std.proofs.Common.{refl}
use Rattle.rw_fleet.proofs.PutLemmas.{samples_mark, places_mark}
use Rattle.rw_fleet.proofs.SoftLemmas.{ended_push}
use Rattle.rw_fleet.proofs.ends.end_of.Goals as goal

pub returns-in-Ok-clause-places : goal.returns-in-Ok-clause-places
returns-in-Ok-clause-places g c = places_mark _ _ _ c.in-Ok.ensures.put.2 refl

pub returns-in-Ok-clause-samples : goal.returns-in-Ok-clause-samples
returns-in-Ok-clause-samples g c = samples_mark _ _ _ c.in-Ok.ensures.put.2 refl

pub returns-in-Ok-clause-ended : goal.returns-in-Ok-clause-ended
returns-in-Ok-clause-ended g c = λ bare. ended_push _ _ _ c.in-Ok.ensures.put.2
