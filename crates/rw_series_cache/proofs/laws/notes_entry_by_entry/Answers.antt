use Rattle.rw_series_cache.proofs.shared.RisingLemmas.{noted_at_first, noted_definition, noted_other, noted_falling, noted_rising}
use Rattle.rw_series_cache.proofs.laws.notes_entry_by_entry.Goals as goal

pub returns-clause-first : goal.returns-clause-first
returns-clause-first c = noted_at_first

pub returns-clause-definition : goal.returns-clause-definition
returns-clause-definition c = noted_definition

pub returns-clause-other : goal.returns-clause-other
returns-clause-other c = noted_other

pub returns-clause-falling : goal.returns-clause-falling
returns-clause-falling c = noted_falling

pub returns-clause-rising : goal.returns-clause-rising
returns-clause-rising c = noted_rising
