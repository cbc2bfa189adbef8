use Rattle.rw_series_cache.proofs.shared.KnownLemmas.{known-take}
use Rattle.rw_series_cache.proofs.laws.known_at_a_position.Goals as goal

pub returns : goal.returns
returns c = known-take
