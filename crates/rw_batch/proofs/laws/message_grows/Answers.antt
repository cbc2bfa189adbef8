use Rattle.rw_batch.proofs.shared.MessageLemmas.{message-push, labels_of-with_sample}
use Rattle.rw_batch.proofs.laws.message_grows.Goals as goal

pub returns-clause-message : goal.returns-clause-message
returns-clause-message c = message-push

pub returns-clause-labels : goal.returns-clause-labels
returns-clause-labels c = labels_of-with_sample
