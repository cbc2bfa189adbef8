use Rattle.rw_sender.proofs.MarkingLemmas.{marks_keep}
use Rattle.rw_sender.proofs.bytes_laws.marks_keep_within.Goals as goal

pub returns : goal.returns
returns c = marks_keep
