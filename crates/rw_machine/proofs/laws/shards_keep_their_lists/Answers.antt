use Rattle.rw_machine.proofs.shared.Lists.{shard_lists}
use Rattle.rw_machine.proofs.laws.shards_keep_their_lists.Goals as goal

pub returns : goal.returns
returns c = shard_lists
