use Rattle.std.proofs.Common.{◌≡◌, ◌∙◌, ◌≤◌, Some, ap, refl}
use Rattle.std.proofs.lemmas.Option.{slice_get_read}
use Rattle.std.specs.Prelude.{slice_get}
use Rattle.rw_world.specs.Held.{Held}
use Rattle.rw_world.specs.Sending.{Sending}
use Rattle.rw_world.specs.contracts.shards.Shards.{the_view}
use Rattle.std.proofs.Common.{ℤ}
use Rattle.std.proofs.Math.Facts.{to_z-of_z}
use Rattle.rw_world.specs.inner.Held.{sample_for}
use Rattle.rw_machine.specs.Shards.{shard_put}
use Rattle.rw_world.proofs.ReplyLemmas.{put_kept, last_put, put_is}
use Rattle.rw_world.proofs.shards.Shards.put.Goals as goal

pub put-requires-clause-later : goal.put-requires-clause-later
put-requires-clause-later c =
    let s = c.self.inside in
    let h = c.index_mut.result.now in
    let at : slice_get s.shards.items c.args.i ≡ Some h = slice_get_read s.shards.items c.len.result c.args.i h (c.len.ensures ∙ s.shards.ok.0) c.if-i-len.false c.index_mut.ensures.value in
    let np : s.next ≤ c.args.pos = rw (ap (λ (v : Sending). v.next) c.self.view_is) c.requires.next in
    last_put s.target s.capacity s.batch s.epoch s.shards.items s.next s.ledger c.args.i c.args.pos h c.self.invariant at np

pub invariant_of-self : goal.invariant_of-self
invariant_of-self c =
    let s = c.self.inside in
    let h = c.index_mut.result.now in
    let at : slice_get s.shards.items c.args.i ≡ Some h = slice_get_read s.shards.items c.len.result c.args.i h (c.len.ensures ∙ s.shards.ok.0) c.if-i-len.false c.index_mut.ensures.value in
    let np : s.next ≤ c.args.pos = rw (ap (λ (v : Sending). v.next) c.self.view_is) c.requires.next in
    put_kept s.target s.capacity s.batch s.epoch s.shards.items s.next s.ledger c.args.i c.args.pos h c.put.new.self _ c.self.invariant at c.put.ensures refl np

pub returns-clause-ok : goal.returns-clause-ok
returns-clause-ok c =
    let s = c.self.inside in
    let h = c.index_mut.result.now in
    let at : slice_get s.shards.items c.args.i ≡ Some h = slice_get_read s.shards.items c.len.result c.args.i h (c.len.ensures ∙ s.shards.ok.0) c.if-i-len.false c.index_mut.ensures.value in
    let a = c.self.invariant.each c.args.i h at in
    let e = ap (λ (x : Held). x.shard) c.put.ensures ∙ ap (λ (z : ℤ). shard_put (sample_for h.shard c.args.pos c.args.series z c.args.word c.args.labels.value) h.shard) (to_z-of_z c.ranges.t) in
    put_is s.shards.items c.args.i c.args.pos c.args.series c.args.t c.args.word c.args.labels.value h c.put.new.self (the_view s) c.args.self.now at e c.self.view_is refl a.epoch_is a.number c.requires.room
