use Rattle.rw_series_cache.proofs.shared.KnownLemmas.{known-definitions_of, series_of-definitions_of, definitions_of-definition, definitions_of-sample}
use Rattle.rw_series_cache.proofs.laws.samples_define_nothing.Goals as goal

pub returns-clause-known : goal.returns-clause-known
returns-clause-known c = known-definitions_of

pub returns-clause-series : goal.returns-clause-series
returns-clause-series c = series_of-definitions_of

pub returns-clause-definition : goal.returns-clause-definition
returns-clause-definition c = definitions_of-definition

pub returns-clause-sample : goal.returns-clause-sample
returns-clause-sample c = definitions_of-sample
