use Rattle.rw_batch.proofs.shared.MessageLemmas.{message_is_distinct, sample_count-message}
use Rattle.rw_batch.proofs.laws.message_keeps_all.Goals as goal

pub returns-clause-distinct : goal.returns-clause-distinct
returns-clause-distinct c = message_is_distinct

pub returns-clause-samples : goal.returns-clause-samples
returns-clause-samples c = sample_count-message
