use Rattle.std.proofs.Common.{◌≡◌, length, refl, ap, subst, sym, ◌∙◌, arith}
use Rattle.std.specs.BTreeMap.{get}
use Rattle.rw_types.specs.LabelOrder.{labels_cmp}
use Rattle.rw_write_request.specs.Message.{TimeSeries}
use Rattle.rw_head.specs.inner.Finds.{Finds}
use Rattle.rw_head.specs.Order.{points}
use Rattle.rw_head.specs.Store.{list_of, with_list}
use Rattle.rw_head.specs.inner.Growth.{HoldsNoneRefused}
use Rattle.rw_head.specs.inner.Texts.{labels_of}
use Rattle.rw_head.specs.inner.Lists.{settled_names}
use Rattle.rw_head.proofs.PlaceLemmas.{none_refused, staged_few}
use Rattle.rw_head.proofs.shared.StagingLemmas.{taken_by, judged_alone, staged-same}
use Rattle.rw_head.proofs.TableLemmas.{held_at, held_same}
use Rattle.rw_head.proofs.ForgettingLemmas.{listed_at}
use Rattle.rw_head.proofs.table.Table.stage.Goals as goal

pub returns-then-is_empty-clause-staged : goal.returns-then-is_empty-clause-staged
returns-then-is_empty-clause-staged c =
    let l = labels_of c.args.texts in
    let series : TimeSeries = record { labels = l; samples = c.args.samples.now } in
    judged_alone c.judge.result c.args.bounds.now c.args.self.now.staged series series refl c.if-is_empty.ensures
    (subst (λ s. with_list l (list_of s l) s ≡ s) (ap (λ s. s.staged) c.self.view_is) (staged-same c.self.inside.places.tree c.self.inside.lists.items l))
    c.judge.ensures.taken c.judge.ensures.err

pub find-requires : goal.find-requires
find-requires c =
    none_refused c.args.bounds.now c.self.inside.places.tree c.self.inside.lists.items c.self.invariant.0.places c.self.invariant.0.filled
    (subst (HoldsNoneRefused c.args.bounds.now) (ap (λ s. s.staged) (sym c.self.view_is)) c.requires)

pub stage_held-requires-clause-room : goal.stage_held-requires-clause-room
stage_held-requires-clause-room c =
    let l = labels_of c.args.texts in
    let found = subst (λ f. Finds f l (get labels_cmp c.self.inside.places.tree l)) c.in-At.is c.in_ok-found.ensures.found in
    let few = staged_few c.self.inside.places.tree c.self.inside.lists.items l c.in-At.place found in
    let room = c.has_room.ensures.0 c.if-not-has_room.false in
    omega (arith, few, room, c.self.invariant.0.counted_staged)

pub stage_held-requires-clause-most : goal.stage_held-requires-clause-most
stage_held-requires-clause-most c =
    let room = c.has_room.ensures.0 c.if-not-has_room.false in
    omega (arith, room)

pub invariant_of-self-in-At : goal.invariant_of-self-in-At
invariant_of-self-in-At c =
    let l = labels_of c.args.texts in
    let found = subst (λ f. Finds f l (get labels_cmp c.self.inside.places.tree l)) c.in-At.is c.in_ok-found.ensures.found in
    let few = c.stage_held.ensures.few in
    let room = c.has_room.ensures.0 c.if-not-has_room.false in
    let h = held_at c.stage_held.result l (points c.args.samples.now) c.find.ensures.tree c.reserve.ensures.items c.self.invariant.0 (ap (λ s. s.staged) c.self.view_is) found c.stage_held.ensures.held c.stage_held.ensures.staged (omega (arith, few, room)) in
    let held = c.stage_held.ensures.held in
    (h.sound, listed_at c.self.invariant.1 refl (ap length c.find.ensures.names) (c.self.invariant.0.places.within l c.in-At.place found) held)

pub returns-in_ok-reserve-in-At : goal.returns-in_ok-reserve-in-At
returns-in_ok-reserve-in-At c =
    let l = labels_of c.args.texts in
    let found = subst (λ f. Finds f l (get labels_cmp c.self.inside.places.tree l)) c.in-At.is c.in_ok-found.ensures.found in
    let few = c.stage_held.ensures.few in
    let room = c.has_room.ensures.0 c.if-not-has_room.false in
    let h = held_at c.stage_held.result l (points c.args.samples.now) c.find.ensures.tree c.reserve.ensures.items c.self.invariant.0 (ap (λ s. s.staged) c.self.view_is) found c.stage_held.ensures.held c.stage_held.ensures.staged (omega (arith, few, room)) in
    let held = c.stage_held.ensures.held in
    let series : TimeSeries = record { labels = l; samples = c.args.samples.now } in record {
      kept = h.kept ∙ ap (λ s. s.kept) c.self.view_is;
      staged = taken_by c.stage_held.result c.args.bounds.now c.args.self.now.staged _ series series refl c.in_ok-found.ensures.taken h.gives;
      same = λ few. held_same c.stage_held.result l c.find.ensures.tree c.self.invariant.0.places (ap (λ s. s.staged) c.self.view_is) found held.list (c.stage_held.ensures.same few);
      placed = ap (λ ns. settled_names ns c.self.inside.fresh.items) c.find.ensures.names ∙ ap (λ s. s.placed) c.self.view_is;
      forgets = ap (λ s. s.forgets) c.self.view_is;
    }
