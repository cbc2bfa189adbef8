use Rattle.std.proofs.Common.{◌≡◌, ◌∙◌, ◌<◌, ◌^◌, ◌++◌, ◌∷◌, [], length, sym, ap, refl, IfSome, subst, ℤ, arith}
use Rattle.std.proofs.Math.Facts.{to_z-of_z}
use Rattle.rw_types.specs.declared.place.Place.{Place}
use Rattle.rw_plain_queue.specs.Items.{Placed, samples_in}
use Rattle.rw_plain_queue.specs.Queue.{put_in}
use Rattle.rw_plain_queue.specs.declared.item.Item.{Item}
use Rattle.rw_plain_queue.specs.declared.item.Item.TheVariants.{Sample}
use Rattle.rw_shard_core.specs.Shard.{last_sample}
use Rattle.rw_machine.specs.Shards.{shard_put}
use Rattle.rw_world.specs.Held.{Held}
use Rattle.rw_world.specs.inner.Held.{held_of, sample_for}
use Rattle.rw_world.proofs.ShardLemmas.{put_sample_kept, held_more}
use Rattle.rw_world.proofs.shard.WorldShard.put.Goals as goal

pub invariant_of-self : goal.invariant_of-self
invariant_of-self c =
    let s = c.self.inside in
    let h = held_of s.queue s.end_put s.core in
    let len : length (samples_in (put_in s.queue)) ≡ length c.args.self.now.shard.put = ap (λ (h : Held). length h.shard.put) c.self.view_is in
    let few : s.count < 2 ^ 60 = omega (arith, c.self.invariant.2.counted, len, c.requires.few) in
    let later : IfSome (last_sample (samples_in (put_in s.queue))) (λ (z : Placed). z.place.pos < c.args.pos) = subst (λ (h : Held). IfSome (last_sample h.shard.put) (λ (z : Placed). z.place.pos < c.args.pos)) (sym c.self.view_is) c.requires.later in
    let place : Place = record { epoch = s.epoch; shard = s.shard; seq = s.count; pos = c.args.pos; series = c.args.series } in
    let x : Item = Sample place c.args.t c.args.word c.args.labels in
    let y : Placed = record { place = place; t = c.args.t; word = c.args.word; labels = c.args.labels.value } in
    let e : c.put_in.new.queue ≡ record s.queue { items = s.queue.items ++ x ∷ [] } = c.put_in.ensures ∙ ap (λ (i : Item). record s.queue { items = s.queue.items ++ i ∷ [] }) c.sample_item.ensures ∙ ap (λ (z : ℤ). record s.queue { items = s.queue.items ++ Sample place z c.args.word c.args.labels ∷ [] }) (to_z-of_z c.ranges.t) in
    let k = put_sample_kept s.queue c.put_in.new.queue s.core s.count s.taken x y c.self.invariant.2 e refl c.self.invariant.0 c.self.invariant.1 refl few later in
    (c.self.invariant.0, c.self.invariant.1, k.0)

pub returns : goal.returns
returns c =
    let s = c.self.inside in
    let len : length (samples_in (put_in s.queue)) ≡ length c.args.self.now.shard.put = ap (λ (h : Held). length h.shard.put) c.self.view_is in
    let few : s.count < 2 ^ 60 = omega (arith, c.self.invariant.2.counted, len, c.requires.few) in
    let later : IfSome (last_sample (samples_in (put_in s.queue))) (λ (z : Placed). z.place.pos < c.args.pos) = subst (λ (h : Held). IfSome (last_sample h.shard.put) (λ (z : Placed). z.place.pos < c.args.pos)) (sym c.self.view_is) c.requires.later in
    let place : Place = record { epoch = s.epoch; shard = s.shard; seq = s.count; pos = c.args.pos; series = c.args.series } in
    let x : Item = Sample place c.args.t c.args.word c.args.labels in
    let y : Placed = record { place = place; t = c.args.t; word = c.args.word; labels = c.args.labels.value } in
    let e : c.put_in.new.queue ≡ record s.queue { items = s.queue.items ++ x ∷ [] } = c.put_in.ensures ∙ ap (λ (i : Item). record s.queue { items = s.queue.items ++ i ∷ [] }) c.sample_item.ensures ∙ ap (λ (z : ℤ). record s.queue { items = s.queue.items ++ Sample place z c.args.word c.args.labels ∷ [] }) (to_z-of_z c.ranges.t) in
    let k = put_sample_kept s.queue c.put_in.new.queue s.core s.count s.taken x y c.self.invariant.2 e refl c.self.invariant.0 c.self.invariant.1 refl few later in
    let h = held_of s.queue s.end_put s.core in
    let same : y ≡ sample_for h.shard c.args.pos c.args.series c.args.t c.args.word c.args.labels.value = rw (c.self.invariant.0, c.self.invariant.1, c.self.invariant.2.counted) refl in
    held_more s.queue c.put_in.new.queue x s.end_put s.core (samples_in (put_in s.queue) ++ y ∷ []) k.1 e
    ∙ rw same refl
    ∙ ap (λ (h : Held). record h { shard = shard_put (sample_for h.shard c.args.pos c.args.series c.args.t c.args.word c.args.labels.value) h.shard }) c.self.view_is
