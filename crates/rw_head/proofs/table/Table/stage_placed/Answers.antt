use Rattle.std.proofs.Common.{[], get_or, refl, ap, subst, sym, ◌∙◌, arith}
use Rattle.rw_write_request.specs.Message.{TimeSeries}
use Rattle.rw_head.specs.Order.{points}
use Rattle.rw_head.specs.inner.Growth.{HoldsNoneRefused}
use Rattle.rw_head.proofs.PlaceLemmas.{none_refused, staged_few}
use Rattle.rw_head.proofs.PlacedLemmas.{placed_at}
use Rattle.rw_head.proofs.shared.StagingLemmas.{taken_by}
use Rattle.rw_head.proofs.TableLemmas.{held_at}
use Rattle.rw_head.proofs.ForgettingLemmas.{listed_at}
use Rattle.rw_head.proofs.table.Table.stage_placed.Goals as goal

pub stage_held-requires-clause-place : goal.stage_held-requires-clause-place
stage_held-requires-clause-place c =
    let there = placed_at c.self.inside.places.tree c.self.inside.places.names.items c.self.inside.fresh.items c.args.self.now.placed c.args.place c.self.inside.places.named (ap (λ s. s.placed) c.self.view_is) c.requires in
    omega (arith, there.0, c.self.invariant.1.same)

pub stage_held-requires-clause-room : goal.stage_held-requires-clause-room
stage_held-requires-clause-room c =
    let there = placed_at c.self.inside.places.tree c.self.inside.places.names.items c.self.inside.fresh.items c.args.self.now.placed c.args.place c.self.inside.places.named (ap (λ s. s.placed) c.self.view_is) c.requires in
    let few = staged_few c.self.inside.places.tree c.self.inside.lists.items (get_or c.args.self.now.placed c.args.place []) c.args.place there.1 in
    let room = c.has_room.ensures.0 c.if-not-has_room.false in
    omega (arith, few, room, c.self.invariant.0.counted_staged)

pub stage_held-requires-clause-most : goal.stage_held-requires-clause-most
stage_held-requires-clause-most c =
    let room = c.has_room.ensures.0 c.if-not-has_room.false in
    omega (arith, room)

pub invariant_of-self-2 : goal.invariant_of-self-2
invariant_of-self-2 c =
    let l = get_or c.args.self.now.placed c.args.place [] in
    let there = placed_at c.self.inside.places.tree c.self.inside.places.names.items c.self.inside.fresh.items c.args.self.now.placed c.args.place c.self.inside.places.named (ap (λ s. s.placed) c.self.view_is) c.requires in
    let few = c.stage_held.ensures.few in
    let room = c.has_room.ensures.0 c.if-not-has_room.false in
    let h = held_at c.stage_held.result l (points c.args.samples.now) refl c.reserve.ensures.items c.self.invariant.0 (ap (λ s. s.staged) c.self.view_is) there.1 c.stage_held.ensures.held c.stage_held.ensures.staged (omega (arith, few, room)) in
    let held = c.stage_held.ensures.held in
    (h.sound, listed_at c.self.invariant.1 refl refl (c.self.invariant.0.places.within l c.args.place there.1) held)

pub returns : goal.returns
returns c =
    let l = get_or c.args.self.now.placed c.args.place [] in
    let there = placed_at c.self.inside.places.tree c.self.inside.places.names.items c.self.inside.fresh.items c.args.self.now.placed c.args.place c.self.inside.places.named (ap (λ s. s.placed) c.self.view_is) c.requires in
    let few = c.stage_held.ensures.few in
    let room = c.has_room.ensures.0 c.if-not-has_room.false in
    let h = held_at c.stage_held.result l (points c.args.samples.now) refl c.reserve.ensures.items c.self.invariant.0 (ap (λ s. s.staged) c.self.view_is) there.1 c.stage_held.ensures.held c.stage_held.ensures.staged (omega (arith, few, room)) in
    let series : TimeSeries = record { labels = l; samples = c.args.samples.now } in record {
      kept = h.kept ∙ ap (λ s. s.kept) c.self.view_is;
      staged = λ limits none.
          let good = none_refused limits c.self.inside.places.tree c.self.inside.lists.items c.self.invariant.0.places c.self.invariant.0.filled (subst (HoldsNoneRefused limits) (ap (λ s. s.staged) (sym c.self.view_is)) none) l c.args.place there.1 in
          taken_by c.stage_held.result limits c.args.self.now.staged _ series series refl good h.gives;
      placed = ap (λ s. s.placed) c.self.view_is;
      forgets = ap (λ s. s.forgets) c.self.view_is;
    }
