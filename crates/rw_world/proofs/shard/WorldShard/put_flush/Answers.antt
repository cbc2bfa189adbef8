use Rattle.std.proofs.Common.{◌∙◌, ap, refl}
use Rattle.rw_plain_queue.specs.Items.{samples_in}
use Rattle.rw_plain_queue.specs.Queue.{put_in}
use Rattle.rw_plain_queue.specs.declared.item.Item.TheVariants.{Flush}
use Rattle.rw_machine.specs.Shards.{shard_flush}
use Rattle.rw_world.specs.Held.{Held}
use Rattle.rw_world.proofs.ShardLemmas.{put_mark_kept, held_more}
use Rattle.rw_world.proofs.shard.WorldShard.put_flush.Goals as goal

pub invariant_of-self : goal.invariant_of-self
invariant_of-self c =
    let s = c.self.inside in
    let k = put_mark_kept s.queue c.put_in.new.queue s.core s.count s.taken Flush c.self.invariant.2 c.put_in.ensures refl in
    (c.self.invariant.0, c.self.invariant.1, k.0)

pub returns : goal.returns
returns c =
    let s = c.self.inside in
    let k = put_mark_kept s.queue c.put_in.new.queue s.core s.count s.taken Flush c.self.invariant.2 c.put_in.ensures refl in
    held_more s.queue c.put_in.new.queue Flush s.end_put s.core (samples_in (put_in s.queue)) k.1 c.put_in.ensures ∙ ap (λ (h : Held). record h { shard = shard_flush h.shard }) c.self.view_is
