-- A sample is put into the queue of its series' shard.
use Rattle.std.proofs.Common.{◌≡◌, ℕ, ℤ, suc, ◌+◌, Bool, true, false, cond, is_some, Option, None, Some, refl, sym, ap, ◌∙◌, add-one}
use Rattle.std.proofs.lemmas.Bool.{cond-false, cond-true}
use Rattle.rw_types.specs.Labels.{Labels}
use Rattle.rw_types.specs.declared.entry.Entry.{Entry}
use Rattle.rw_series_cache.specs.Numbers.{number_of}
use Rattle.rw_machine.specs.Shards.{Shard, has_room, shard_put}
use Rattle.rw_machine.specs.Worlds.{Setup, World}
use Rattle.rw_machine.specs.Steps.{change, next_sample, place, place_entry, put_if_room}
use Rattle.rw_plain_queue.specs.Items.{Placed}
use Rattle.rw_world.specs.Sending.{Sending, has_room_at, next_sample_at, put_to}
use Rattle.rw_world.specs.Machine.{Machine}
use Rattle.rw_world.specs.inner.Machine.{next_entry}

-- the next entry is placed, while no shards are drained
pub place_is : (m : Machine) (e : Entry) → is_some m.world.draining ≡ false → next_entry m ≡ Some e → record m { world = place m.setup m.world } ≡ record m { world = place_entry m.setup m.world (Some e) }
place_is m e draining at =
    ap (λ b. record m { world = cond b m.world (place_entry m.setup m.world (next_entry m)) }) draining
    ∙ ap (λ o. record m { world = place_entry m.setup m.world o }) at

-- without room all stays
pub no_room : (c : Setup) (w : World) (i : ℕ) (l : Labels) (t : ℤ) (word : ℕ) (o : Option Shard) → has_room_at c.capacity o ≡ false → put_if_room c w i l t word o ≡ w
no_room c w i l t word None e = refl
no_room c w i l t word (Some s) e = cond-false (has_room c.capacity s) _ w e

pub put_next_is : (v : Sending) (i pos series : ℕ) (t : ℤ) (word : ℕ) (l : Labels) (o : Option Shard) → has_room_at v.capacity o ≡ true → (put_to v i pos series t word l o).next ≡ pos + 1
put_next_is v i pos series t word l None e = absurd (cc)
put_next_is v i pos series t word l (Some s) e = ap (λ (x : Sending). x.next) (cond-true (has_room v.capacity s) (record v { shards = change i (shard_put (next_sample_at v i pos series t word l s)) v.shards; next = pos + 1 }) v e)

put_target_if : (b : Bool) (v w : Sending) → w.target ≡ v.target → (cond b w v).target ≡ v.target
put_target_if true v w e = e
put_target_if false v w e = refl

pub put_target : (v : Sending) (i pos series : ℕ) (t : ℤ) (word : ℕ) (l : Labels) (o : Option Shard) → (put_to v i pos series t word l o).target ≡ v.target
put_target v i pos series t word l None = refl
put_target v i pos series t word l (Some s) = put_target_if (has_room v.capacity s) v (record v { shards = change i (shard_put (next_sample_at v i pos series t word l s)) v.shards; next = pos + 1 }) refl

-- with room the sample is put
pub put_seen : (u : Machine) (v v' : Sending) (i number : ℕ) (t : ℤ) (word : ℕ) (l : Labels) (o : Option Shard) → has_room_at v.capacity o ≡ true → v' ≡ put_to v i u.world.placed number t word l o → number ≡ number_of u.world.series l →
    u.setup.target ≡ v.target → u.setup.capacity ≡ v.capacity → u.setup.batch ≡ v.batch → u.world.epoch ≡ v.epoch → u.world.shards ≡ v.shards → u.world.names ≡ v.names →
    ◌≡◌ {A = Machine} (record {
      setup = record u.setup { target = v'.target; capacity = v'.capacity; batch = v'.batch };
      world = record u.world { epoch = v'.epoch; shards = v'.shards; names = v'.names; placed = u.world.placed + 1 };
    }) (record u { world = put_if_room u.setup u.world i l t word o })
put_seen u v v' i number t word l None room e n tg cp bt ep sh nm = absurd (cc)
put_seen u v v' i number t word l (Some s) room e n tg cp bt ep sh nm =
    let made : v' ≡ record v { shards = change i (shard_put (next_sample_at v i u.world.placed number t word l s)) v.shards; next = u.world.placed + 1 } = e ∙ cond-true (has_room v.capacity s) (record v { shards = change i (shard_put (next_sample_at v i u.world.placed number t word l s)) v.shards; next = u.world.placed + 1 }) v room in
    let same : next_sample_at v i u.world.placed number t word l s ≡ next_sample u.world i l t word s = rw (sym ep, n) refl in
    let shards : v'.shards ≡ change i (shard_put (next_sample u.world i l t word s)) u.world.shards =
    ap (λ (x : Sending). x.shards) made ∙ ap (λ (x : Placed). change i (shard_put x) v.shards) same ∙ ap (change i (shard_put (next_sample u.world i l t word s))) (sym sh) in
    let target : v'.target ≡ u.setup.target = ap (λ (x : Sending). x.target) made ∙ sym tg in
    let capacity : v'.capacity ≡ u.setup.capacity = ap (λ (x : Sending). x.capacity) made ∙ sym cp in
    let batch : v'.batch ≡ u.setup.batch = ap (λ (x : Sending). x.batch) made ∙ sym bt in
    let epoch : v'.epoch ≡ u.world.epoch = ap (λ (x : Sending). x.epoch) made ∙ sym ep in
    let names : v'.names ≡ u.world.names = ap (λ (x : Sending). x.names) made ∙ sym nm in
    let has : has_room u.setup.capacity s ≡ true = ap (λ k. has_room k s) cp ∙ room in
    let next : World = record u.world { shards = change i (shard_put (next_sample u.world i l t word s)) u.world.shards; placed = suc u.world.placed } in
    let put : ◌≡◌ {A = Machine} (record {
      setup = record u.setup { target = v'.target; capacity = v'.capacity; batch = v'.batch };
      world = record u.world { epoch = v'.epoch; shards = v'.shards; names = v'.names; placed = u.world.placed + 1 };
    }) (record u { world = next }) = rw (target, capacity, batch, epoch, shards, names, add-one u.world.placed) refl in
    put ∙ ap (λ (w : World). record u { world = w }) (sym (cond-true (has_room u.setup.capacity s) next u.world has))
