use Rattle.std.proofs.Common.{◌≡◌, ◌∙◌, Some, ap, refl}
use Rattle.std.proofs.lemmas.Option.{slice_get_read}
use Rattle.std.specs.Prelude.{slice_get}
use Rattle.rw_world.specs.Held.{Held}
use Rattle.rw_world.specs.contracts.shards.Shards.{the_view}
use Rattle.rw_world.proofs.ReplyLemmas.{has_room_for, reply_kept_all, replied_is}
use Rattle.rw_world.proofs.shards.Shards.reply.Goals as goal

pub reply-requires : goal.reply-requires
reply-requires c =
    let s = c.self.inside in
    let h = c.index_mut.result.now in
    let at : slice_get s.shards.items c.args.id.shard ≡ Some h = slice_get_read s.shards.items c.len.result c.args.id.shard h (c.len.ensures ∙ s.shards.ok.0) c.if-i-len.false c.index_mut.ensures.value in
    has_room_for s.target s.capacity s.batch s.epoch s.shards.items s.next s.ledger c.args.id.shard h c.self.invariant at

pub invariant_of-self : goal.invariant_of-self
invariant_of-self c =
    let s = c.self.inside in
    let h = c.index_mut.result.now in
    let at : slice_get s.shards.items c.args.id.shard ≡ Some h = slice_get_read s.shards.items c.len.result c.args.id.shard h (c.len.ensures ∙ s.shards.ok.0) c.if-i-len.false c.index_mut.ensures.value in
    reply_kept_all c.args.id c.args.status s.target s.capacity s.batch s.epoch s.shards.items s.next s.ledger c.reply.new.ledger c.args.id.shard h c.reply.new.self c.self.invariant at c.reply.ensures.shard c.reply.ensures.names c.reply.ensures.room

pub returns : goal.returns
returns c =
    let s = c.self.inside in
    let h = c.index_mut.result.now in
    let at : slice_get s.shards.items c.args.id.shard ≡ Some h = slice_get_read s.shards.items c.len.result c.args.id.shard h (c.len.ensures ∙ s.shards.ok.0) c.if-i-len.false c.index_mut.ensures.value in
    replied_is c.args.id c.args.status s.shards.items h c.reply.new.self s.ledger c.reply.new.ledger (the_view s) c.args.self.now at (ap (λ (x : Held). x.shard) c.reply.ensures.shard) c.reply.ensures.names c.self.view_is refl refl
