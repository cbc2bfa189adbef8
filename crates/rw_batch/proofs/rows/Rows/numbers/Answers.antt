use Rattle.std.proofs.Common.{◌≡◌, ◌<◌, List, ℕ, length, reverse, ap, sym, subst, ◌∙◌, arith}
use Rattle.std.specs.List.{flat_map, AllByRecursion}
use Rattle.rw_batch.specs.Grouping.{message}
use Rattle.rw_batch.specs.inner.Kept.{Rowed, IsTrail, samples_alone, field_at}
use Rattle.rw_batch.proofs.RowLemmas.{as_many, line_here, trail_of, fields_back, within_back}
use Rattle.rw_batch.proofs.rows.Rows.numbers.Goals as goal

pub index-requires : goal.index-requires
index-requires c =
    omega (
      arith,
      c.requires.place,
      ap (λ (r : Rowed). length (message r.samples)) c.self.view_is,
      c.self.inside.lines.ok.0,
      as_many c.self.inside.samples c.self.inside.before.items (message c.self.inside.samples) c.self.inside.lines.items c.self.invariant.lines_are,
    )

pub walk_back-requires-clause-trail : goal.walk_back-requires-clause-trail
walk_back-requires-clause-trail c =
    let r = c.self.inside in
    let lt : c.args.place < length (message r.samples) = omega (arith, c.requires.place, ap (λ (r : Rowed). length (message r.samples)) c.self.view_is) in
    let line = line_here r.samples r.before.items r.lines.items c.args.place c.index.result.now c.self.invariant.lines_are lt c.index.ensures in
    (line.back, subst (λ (bs : List ℕ). IsTrail bs c.index.result.now.last line.back) (sym c.deref.ensures.value) (trail_of r.samples r.before.items c.index.result.now.last line.back _ line.goes), line.count)

pub walk_back-requires-clause-short : goal.walk_back-requires-clause-short
walk_back-requires-clause-short c = omega (arith, ap length c.deref.ensures.value, c.self.invariant.numbered, c.self.invariant.within, c.self.invariant.most)

pub walk_back-requires-clause-room : goal.walk_back-requires-clause-room
walk_back-requires-clause-room c =
    let r = c.self.inside in
    let lt : c.args.place < length (message r.samples) = omega (arith, c.requires.place, ap (λ (r : Rowed). length (message r.samples)) c.self.view_is) in
    let line = line_here r.samples r.before.items r.lines.items c.args.place c.index.result.now c.self.invariant.lines_are lt c.index.ensures in
    omega (arith, line.few, c.requires.room, c.clear.ensures.capacity, ap (λ (r : Rowed). length r.samples) c.self.view_is)

pub returns-clause-fields : goal.returns-clause-fields
returns-clause-fields c =
    let r = c.self.inside in
    let lt : c.args.place < length (message r.samples) = omega (arith, c.requires.place, ap (λ (r : Rowed). length (message r.samples)) c.self.view_is) in
    let line = line_here r.samples r.before.items r.lines.items c.args.place c.index.result.now c.self.invariant.lines_are lt c.index.ensures in
    let trail = subst (λ (bs : List ℕ). IsTrail bs c.index.result.now.last line.back) (sym c.deref.ensures.value) (trail_of r.samples r.before.items c.index.result.now.last line.back _ line.goes) in
    let found : c.reverse.new.self.items ≡ reverse line.back = c.reverse.ensures.items ∙ ap reverse (c.walk_back.ensures.back line.back trail line.count) in
    rw (← c.self.view_is) (ap (flat_map (field_at (samples_alone r.samples))) found ∙ fields_back r.samples r.before.items c.index.result.now.last line.back _ line.goes)

pub returns-clause-within : goal.returns-clause-within
returns-clause-within c =
    let r = c.self.inside in
    let lt : c.args.place < length (message r.samples) = omega (arith, c.requires.place, ap (λ (r : Rowed). length (message r.samples)) c.self.view_is) in
    let line = line_here r.samples r.before.items r.lines.items c.args.place c.index.result.now c.self.invariant.lines_are lt c.index.ensures in
    let trail = subst (λ (bs : List ℕ). IsTrail bs c.index.result.now.last line.back) (sym c.deref.ensures.value) (trail_of r.samples r.before.items c.index.result.now.last line.back _ line.goes) in
    let found : c.reverse.new.self.items ≡ reverse line.back = c.reverse.ensures.items ∙ ap reverse (c.walk_back.ensures.back line.back trail line.count) in
    rw (← c.self.view_is) (subst (AllByRecursion (λ j. j < length r.samples)) (sym found) (within_back r.samples r.before.items c.index.result.now.last line.back _ line.goes))
