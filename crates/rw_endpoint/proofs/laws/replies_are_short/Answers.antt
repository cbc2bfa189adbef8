use Rattle.rw_endpoint.proofs.shared.ReplyLemmas.{reply_len}
use Rattle.rw_endpoint.proofs.laws.replies_are_short.Goals as goal

pub returns : goal.returns
returns c = reply_len
