use Rattle.std.proofs.Common.{◌≡◌, true, length, Ok, List, refl, ap, subst, sym, ◌∙◌, arith, rules}
use Rattle.rw_write_request.specs.Message.{Sample, TimeSeries}
use Rattle.rw_write_request.specs.Read.{read_series}
use Rattle.rw_head.specs.Order.{points}
use Rattle.rw_head.specs.inner.Growth.{HoldsNoneRefused}
use Rattle.rw_head.proofs.shared.BodyLemmas.{all_read, known_gives}
use Rattle.rw_head.proofs.PlaceLemmas.{none_refused, staged_few}
use Rattle.rw_head.proofs.shared.StagingLemmas.{taken_by}
use Rattle.rw_head.proofs.TableLemmas.{held_at}
use Rattle.rw_head.proofs.ForgettingLemmas.{listed_at}
use Rattle.rw_head.proofs.table.Table.stage_known.Goals as goal

pub stage_held-requires-clause-room : goal.stage_held-requires-clause-room
stage_held-requires-clause-room c =
    let k = c.in-Some.ensures.known in
    let few = staged_few c.self.inside.places.tree c.self.inside.lists.items k.labels c.in-Some.place k.stands in
    let room = c.has_room.ensures.0 c.if-not-has_room.false in
    omega (arith, few, room, ap length c.deref.ensures.value, c.len.ensures, c.self.invariant.0.counted_staged)

pub stage_held-requires-clause-most : goal.stage_held-requires-clause-most
stage_held-requires-clause-most c =
    let room = c.has_room.ensures.0 c.if-not-has_room.false in
    omega (arith, room, ap length c.deref.ensures.value, c.len.ensures)

pub invariant_of-self-2 : goal.invariant_of-self-2
invariant_of-self-2 c =
    let k = c.in-Some.ensures.known in
    let few = c.stage_held.ensures.few in
    let room = c.has_room.ensures.0 c.if-not-has_room.false in
    let many = ap length c.deref.ensures.value in
    let len = c.len.ensures in
    let h = held_at c.stage_held.result k.labels (points c.deref.result.now) c.known.ensures.tree c.reserve.ensures.items c.self.invariant.0 (ap (λ s. s.staged) c.self.view_is) k.stands c.stage_held.ensures.held c.stage_held.ensures.staged (omega (arith, few, room, many, len)) in
    let held = c.stage_held.ensures.held in
    (h.sound, listed_at c.self.invariant.1 refl (ap length c.known.ensures.names) (c.self.invariant.0.places.within k.labels c.in-Some.place k.stands) held)

pub returns : goal.returns
returns c =
    let k = c.in-Some.ensures.known in
    let few = c.stage_held.ensures.few in
    let room = c.has_room.ensures.0 c.if-not-has_room.false in
    let many = ap length c.deref.ensures.value in
    let len = c.len.ensures in
    let h = held_at c.stage_held.result k.labels (points c.deref.result.now) c.known.ensures.tree c.reserve.ensures.items c.self.invariant.0 (ap (λ s. s.staged) c.self.view_is) k.stands c.stage_held.ensures.held c.stage_held.ensures.staged (omega (arith, few, room, many, len)) in
    let l = k.labels in
    let s = c.args.self.now.staged in
    let series : TimeSeries = record { labels = l; samples = c.deref.result.now } in
    let all : c.in_ok-read_samples.field-0 ≡ true = search rules in
    let read : read_series c.args.bytes.now ≡ Ok series =
    ap read_series k.parts ∙ all_read c.in_ok-read_samples.field-0 l c.read_samples.new.samples.items (read_series _) all (c.in_ok-read_samples.ensures.given k.head l k.is)
    ∙ ap (λ (xs : List Sample). Ok (record { labels = l; samples = xs })) (sym c.deref.ensures.value) in record {
      kept = h.kept ∙ ap (λ s. s.kept) c.self.view_is;
      staged = λ limits none.
          let good = none_refused limits c.self.inside.places.tree c.self.inside.lists.items c.self.invariant.0.places c.self.invariant.0.filled (subst (HoldsNoneRefused limits) (ap (λ s. s.staged) (sym c.self.view_is)) none) l c.in-Some.place k.stands in
          rw c.was_known.ensures (known_gives c.stage_held.result limits s _ (read_series c.args.bytes.now) series read (taken_by c.stage_held.result limits s _ series series refl good h.gives));
      forgets = ap (λ s. s.forgets) c.self.view_is;
    }
