use Rattle.std.proofs.Common.{rules, ◌≡◌, ◌∙◌, ◌+◌, ◌%◌, ℕ, ℤ, true, false, refl, ap, sym, subst, take, arith}
use Rattle.std.proofs.lemmas.Int.{to_z-of_z}
use Rattle.std.specs.Int.{w64}
use Rattle.std.specs.Prelude.{FitsSigned, slice_get}
use Rattle.std.specs.Arc.{arc_value}
use Rattle.rw_types.specs.declared.entry.Entry.TheVariants.{Sample}
use Rattle.rw_wal_format.specs.Pieces.{entries}
use Rattle.rw_series_cache.specs.Numbers.{number_of}
use Rattle.rw_series_cache.specs.Routing.{Routing, IsSentNext}
use Rattle.rw_machine.specs.Steps.{shard_of_labels, put_if_room}
use Rattle.rw_world.specs.Sending.{Sending, has_room_at, put_to}
use Rattle.rw_world.specs.Machine.{Machine}
use Rattle.rw_world.specs.inner.Machine.{IsSampleNext, with_sample}
use Rattle.rw_world.specs.contracts.engine.Engine.{the_view}
use Rattle.rw_world.proofs.WorldLemmas.{world_more, same_series}
use Rattle.rw_world.proofs.PlaceLemmas.{no_room, put_next_is, put_target, put_seen}
use Rattle.rw_world.proofs.ArriveLemmas.{same_target}
use Rattle.rw_world.proofs.engine.Engine.put_next.Goals as goal

pub sent-requires : goal.sent-requires
sent-requires c =
    let s = c.self.inside in
    let x = c.args.sample in
    let before = take s.placed (entries s.log) in
    let next = subst (λ (m : Machine). IsSampleNext m x) (sym c.self.view_is) c.requires.next in
    let fits : FitsSigned w64 x.t = search rules in
    let entry = Sample next.reference x.t x.word in
    record {
      before = before;
      entry = entry;
      knows = c.self.invariant.0.knows;
      next = subst (IsSentNext s.router.cache.choice before entry x.series) (sym (to_z-of_z w64 x.t fits)) (refl, (arc_value x.labels, next.fate_is, next.numbered));
    }

pub invariant_of-self-2 : goal.invariant_of-self-2
invariant_of-self-2 c =
    let s = c.self.inside in
    let i = c.self.invariant.0 in
    let x = c.args.sample in
    let l = arc_value x.labels in
    let at : ℕ = x.series % c.len.result in
    let before = take s.placed (entries s.log) in
    let next = subst (λ (m : Machine). IsSampleNext m x) (sym c.self.view_is) c.requires.next in
    let fits : FitsSigned w64 x.t = search rules in
    let entry = Sample next.reference x.t x.word in
    let room : has_room_at s.senders.capacity (slice_get s.senders.shards at) ≡ true = sym c.has_room.ensures ∙ c.if-not-has_room.false in
    let put = c.in_ok-put.ensures.ok ∙ ap (λ (z : ℤ). put_to s.senders at x.pos x.series z x.word l (slice_get s.senders.shards at)) (to_z-of_z w64 x.t fits) in
    let n : c.put.new.self.next ≡ x.pos + 1 = ap (λ (v : Sending). v.next) put ∙ put_next_is s.senders at x.pos x.series x.t x.word l (slice_get s.senders.shards at) room in
    let target = ap (λ (v : Sending). v.target) put ∙ put_target s.senders at x.pos x.series x.t x.word l (slice_get s.senders.shards at) in
    let served = same_target s.senders.target c.put.new.self.target s.host s.limits.path s.requests.items target c.self.invariant.1 in
    let sent = subst (IsSentNext s.router.cache.choice before entry x.series) (sym (to_z-of_z w64 x.t fits)) (refl, (l, next.fate_is, next.numbered)) in
    let same = ap (λ (r : Routing). r.filtered) c.sent.ensures.noted in
    (world_more s.senders.next c.put.new.self.next s.placed s.log s.router c.sent.new.self s.draining entry i next.at (c.sent.ensures.knows before entry i.knows sent) (omega (arith, same, i.filtered_within)) (omega (arith, n, next.pos_is)), served)

pub returns-then-not-has_room-clause-ok : goal.returns-then-not-has_room-clause-ok
returns-then-not-has_room-clause-ok c =
    let s = c.self.inside in
    let u : Machine = the_view s in
    let x = c.args.sample in
    let l = arc_value x.labels in
    let at : ℕ = x.series % c.len.result in
    let next = subst (λ (m : Machine). IsSampleNext m x) (sym c.self.view_is) c.requires.next in
    let number : x.series ≡ number_of u.world.series l = next.numbered.numbered ∙ ap (λ xs. number_of xs l) (same_series (take s.placed (entries s.log)) s.router.cache c.self.invariant.0.knows) in
    let here : at ≡ shard_of_labels u.world l = ap (λ k. k % c.len.result) number ∙ ap (λ k. number_of u.world.series l % k) c.len.ensures.len in
    let none : has_room_at u.setup.capacity (slice_get u.world.shards at) ≡ false = sym c.has_room.ensures ∙ c.if-not-has_room.true in
    sym c.self.view_is
    ∙ ap (λ w. record u { world = w }) (sym (no_room u.setup u.world at l x.t x.word (slice_get u.world.shards at) none))
    ∙ ap (λ k. record u { world = put_if_room u.setup u.world k l x.t x.word (slice_get u.world.shards k) }) here
    ∙ ap (λ (m : Machine). with_sample m x) c.self.view_is

pub returns-clause-ok : goal.returns-clause-ok
returns-clause-ok c =
    let s = c.self.inside in
    let u : Machine = the_view s in
    let x = c.args.sample in
    let l = arc_value x.labels in
    let at : ℕ = x.series % c.len.result in
    let next = subst (λ (m : Machine). IsSampleNext m x) (sym c.self.view_is) c.requires.next in
    let fits : FitsSigned w64 x.t = search rules in
    let number : x.series ≡ number_of u.world.series l = next.numbered.numbered ∙ ap (λ xs. number_of xs l) (same_series (take s.placed (entries s.log)) s.router.cache c.self.invariant.0.knows) in
    let here : at ≡ shard_of_labels u.world l = ap (λ k. k % c.len.result) number ∙ ap (λ k. number_of u.world.series l % k) c.len.ensures.len in
    let room : has_room_at s.senders.capacity (slice_get s.senders.shards at) ≡ true = sym c.has_room.ensures ∙ c.if-not-has_room.false in
    let put = c.in_ok-put.ensures.ok ∙ ap (λ (z : ℤ). put_to s.senders at x.pos x.series z x.word l (slice_get s.senders.shards at)) (to_z-of_z w64 x.t fits) ∙ ap (λ p. put_to s.senders at p x.series x.t x.word l (slice_get s.senders.shards at)) next.pos_is in
    ap (λ (k : Routing). the_view (record s { placed = s.placed + 1; router = k; senders = c.put.new.self })) c.sent.ensures.noted
    ∙ put_seen u s.senders c.put.new.self at x.series x.t x.word l (slice_get s.senders.shards at) room put number refl refl refl refl refl refl
    ∙ ap (λ k. record u { world = put_if_room u.setup u.world k l x.t x.word (slice_get u.world.shards k) }) here
    ∙ ap (λ (m : Machine). with_sample m x) c.self.view_is
