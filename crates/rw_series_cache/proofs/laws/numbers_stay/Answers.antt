use Rattle.rw_series_cache.proofs.shared.SeriesLemmas.{kept_has_number, number_stays_on}
use Rattle.rw_series_cache.proofs.laws.numbers_stay.Goals as goal

pub returns-clause-numbered : goal.returns-clause-numbered
returns-clause-numbered c = kept_has_number

pub returns-clause-stay : goal.returns-clause-stay
returns-clause-stay c = number_stays_on
