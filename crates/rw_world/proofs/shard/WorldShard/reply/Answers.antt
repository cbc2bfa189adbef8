use Rattle.std.proofs.Common.{◌∙◌, sym}
use Rattle.rw_world.proofs.ShardLemmas.{reply_kept}
use Rattle.rw_world.proofs.shard.WorldShard.reply.Goals as goal

pub invariant_of-self : goal.invariant_of-self
invariant_of-self c =
    let s = c.self.inside in
    let k = reply_kept s.queue s.core c.reply.new.self c.args.id c.args.status s.count s.taken c.self.invariant.2 c.reply.ensures.core in
    (c.self.invariant.0 ∙ sym k.0, c.self.invariant.1 ∙ sym k.1, k.2)
