use Rattle.rw_series_cache.proofs.shared.PointLemmas.{below_a_position}
use Rattle.rw_series_cache.proofs.laws.points_below_a_position.Goals as goal

pub returns : goal.returns
returns c = below_a_position
