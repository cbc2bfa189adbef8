use Rattle.rw_roundtrip.proofs.ReplyLemmas.{reply_status}
use Rattle.rw_roundtrip.proofs.laws.replies_are_read.Goals as goal

pub returns : goal.returns
returns c = reply_status
