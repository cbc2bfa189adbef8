use Rattle.std.proofs.Common.{rules}
use Rattle.rw_shard_queue.proofs.Moves.{puts}
use Rattle.rw_shard_queue.proofs.ends.send.Goals as goal

pub send_as-requires-clause-rule : goal.send_as-requires-clause-rule
send_as-requires-clause-rule g c = (puts _ _ _ c.replace-full.result c.requires.log c.requires.slots (search rules) (search rules) (search rules) (search rules), λ items views h at. tt)
