use Rattle.std.proofs.Common.{◌<◌, length, ap, sym, ◌∙◌, subst, refl, arith}
use Rattle.rw_batch.specs.Grouping.{LabelledSample}
use Rattle.rw_batch.specs.inner.Kept.{AreRows}
use Rattle.rw_batch.proofs.RowLemmas.{short_field, known_below, known_line, rows_open, rows_grow}
use Rattle.rw_batch.proofs.rows.Rows.push.Goals as goal

pub invariant_of-self : goal.invariant_of-self
invariant_of-self c =
    let r = c.self.inside in
    let lt : length r.samples < r.room = rw (← c.self.view_is) at c.requires.room in
    let number = c.len-number.ensures ∙ r.before.ok.0 ∙ c.self.invariant.numbered in
    let added = c.place_of-place.ensures.added in
    let keys = c.place_of-place.ensures.keys in
    subst (AreRows r.room c.place_of-place.new.sets.keys _ c.push_reserved.new.self c.push_reserved-then-is_new.new.self) (sym c.push.ensures)
    (rows_open r.room r.series.keys c.place_of-place.new.sets.keys _ _ r.lines c.push_reserved.new.self r.before c.push_reserved-then-is_new.new.self r.samples c.args.sample c.sample.inside.labels
    c.len-number.result c.args.bytes c.place_of-place.result.1 c.self.invariant lt (ap (λ (x : LabelledSample). x.labels) (sym c.sample.view_is)) number c.requires.bytes added c.if-is_new.true keys
    c.place_of-place.ensures.room c.push_reserved.ensures.items c.push_reserved.ensures.capacity c.push_reserved-then-is_new.ensures.items c.push_reserved-then-is_new.ensures.capacity)

pub index-line-requires : goal.index-line-requires
index-line-requires c =
    let r = c.self.inside in
    let stored = c.place_of-place.ensures.stored in
    omega (
      arith,
      r.lines.ok.0,
      known_below r.room r.series.keys c.place_of-place.new.sets.keys _ r.lines r.before r.samples c.sample.inside.labels stored.0 c.place_of-place.result.0 c.place_of-place.result.1
          c.self.invariant (c.place_of-place.ensures.added) c.if-is_new.false (c.place_of-place.ensures.keys) stored.1,
    )

pub overflow_add-line : goal.overflow_add-line
overflow_add-line c =
    let r = c.self.inside in
    let stored = c.place_of-place.ensures.stored in
    let below = known_below r.room r.series.keys c.place_of-place.new.sets.keys _ r.lines r.before r.samples c.sample.inside.labels stored.0 c.place_of-place.result.0 c.place_of-place.result.1
    c.self.invariant (c.place_of-place.ensures.added) c.if-is_new.false (c.place_of-place.ensures.keys) stored.1 in
    let line = known_line r.room r.series.keys _ r.lines r.before r.samples c.place_of-place.result.0 c.index-line.result.now c.self.invariant below c.index-line.ensures in
    omega (arith, line.0)

pub overflow_add-line-2 : goal.overflow_add-line-2
overflow_add-line-2 c =
    let r = c.self.inside in
    let stored = c.place_of-place.ensures.stored in
    let below = known_below r.room r.series.keys c.place_of-place.new.sets.keys _ r.lines r.before r.samples c.sample.inside.labels stored.0 c.place_of-place.result.0 c.place_of-place.result.1
    c.self.invariant (c.place_of-place.ensures.added) c.if-is_new.false (c.place_of-place.ensures.keys) stored.1 in
    let line = known_line r.room r.series.keys _ r.lines r.before r.samples c.place_of-place.result.0 c.index-line.result.now c.self.invariant below c.index-line.ensures in
    omega (arith, line.1, c.requires.bytes, short_field c.args.sample.sample)

pub index_mut-requires : goal.index_mut-requires
index_mut-requires c =
    let r = c.self.inside in
    let stored = c.place_of-place.ensures.stored in
    omega (
      arith,
      r.lines.ok.0,
      known_below r.room r.series.keys c.place_of-place.new.sets.keys _ r.lines r.before r.samples c.sample.inside.labels stored.0 c.place_of-place.result.0 c.place_of-place.result.1
          c.self.invariant (c.place_of-place.ensures.added) c.if-is_new.false (c.place_of-place.ensures.keys) stored.1,
    )

pub invariant_of-self-2 : goal.invariant_of-self-2
invariant_of-self-2 c =
    let r = c.self.inside in
    let lt : length r.samples < r.room = rw (← c.self.view_is) at c.requires.room in
    let number = c.len-number.ensures ∙ r.before.ok.0 ∙ c.self.invariant.numbered in
    let added = c.place_of-place.ensures.added in
    let keys = c.place_of-place.ensures.keys in
    let stored = c.place_of-place.ensures.stored in
    subst (AreRows r.room c.place_of-place.new.sets.keys _ _ c.push_reserved-2.new.self) (sym c.push.ensures)
    (rows_grow r.room r.series.keys c.place_of-place.new.sets.keys _ _ r.lines _ r.before c.push_reserved-2.new.self r.samples c.args.sample c.sample.inside.labels stored.0
    c.len-number.result c.args.bytes c.place_of-place.result.0 c.place_of-place.result.1 c.index-line.result.now c.self.invariant lt (ap (λ (x : LabelledSample). x.labels) (sym c.sample.view_is)) number c.requires.bytes
    added c.if-is_new.false keys c.place_of-place.ensures.room stored.1 stored.2 c.index-line.ensures refl refl c.push_reserved-2.ensures.items c.push_reserved-2.ensures.capacity)
