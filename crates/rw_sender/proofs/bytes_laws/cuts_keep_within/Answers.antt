use Rattle.rw_sender.proofs.MarkingLemmas.{cuts_keep}
use Rattle.rw_sender.proofs.bytes_laws.cuts_keep_within.Goals as goal

pub returns : goal.returns
returns c = cuts_keep
