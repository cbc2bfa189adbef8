use Rattle.std.proofs.Common.{rules}
use Rattle.rw_shard_queue.proofs.Moves.{next, next-open}
use Rattle.rw_shard_queue.proofs.ends.given.Goals as goal

pub invariant_of-result-2 : goal.invariant_of-result-2
invariant_of-result-2 c = (c.requires.seat, search rules, c.requires.log, c.requires.history, (next _ _ _ _ _ _ _ c.requires.history c.requires.front c.push.ensures).0, next-open _ _ _ c.requires.open c.push.ensures (search rules), c.requires.most, c.requires.sized, c.requires.returns)

pub returns : goal.returns
returns c = (search rules, c.push.ensures, search rules, (next _ _ _ _ _ _ _ c.requires.history c.requires.front c.push.ensures).1)
