use Rattle.rw_series_cache.proofs.shared.PointLemmas.{definition_gives_none, sample_is_kept, sample_is_other}
use Rattle.rw_series_cache.proofs.laws.points_entry_by_entry.Goals as goal

pub returns-clause-definition : goal.returns-clause-definition
returns-clause-definition c = definition_gives_none

pub returns-clause-kept : goal.returns-clause-kept
returns-clause-kept c = sample_is_kept

pub returns-clause-other : goal.returns-clause-other
returns-clause-other c = sample_is_other
