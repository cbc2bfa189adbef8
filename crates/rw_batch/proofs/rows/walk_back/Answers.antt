use Rattle.std.proofs.Common.{◌++◌, ◌∷◌, [], List, ℕ, length, ap, sym, ◌∙◌, subst, take, drop, get_or, add-one, take_all, refl, arith}
use Rattle.rw_batch.specs.inner.Kept.{IsTrail}
use Rattle.rw_batch.proofs.RowLemmas.{trail_step, trail_below}
use Rattle.rw_batch.proofs.rows.walk_back.Goals as goal

pub loop-init : goal.loop-init
loop-init c = record {
  trail = λ back t n. (c.requires.empty, t);
  len = omega (arith, ap length c.requires.empty, c.args.row.now.ok.0);
  room = refl;
}

pub push_reserved-requires : goal.push_reserved-requires
push_reserved-requires c = omega (arith, c.requires.room, c.loop.invariant.len, c.loop.invariant.room, c.loop-test.true)

pub bounds-before-at : goal.bounds-before-at
bounds-before-at c =
    let trail = c.requires.trail in
    trail_below c.args.before.now c.loop.at c.loop.counter trail.0 (omega (arith, c.loop-test.true, trail.2)) (c.loop.invariant.trail trail.0 trail.1 trail.2).1

pub offset_bounds-before-at : goal.offset_bounds-before-at
offset_bounds-before-at c =
    let trail = c.requires.trail in
    let below = trail_below c.args.before.now c.loop.at c.loop.counter trail.0 (omega (arith, c.loop-test.true, trail.2)) (c.loop.invariant.trail trail.0 trail.1 trail.2).1 in
    omega (arith, below, c.requires.short)

pub loop-preserved : goal.loop-preserved
loop-preserved c = record {
  trail = λ back t n.
      let now = c.loop.invariant.trail back t n in
      let next = trail_step c.args.before.now c.loop.at (get_or c.args.before.now c.loop.at 0) c.loop.counter back (omega (arith, c.loop-test.true, n)) now.1 refl in (
        c.push_reserved.ensures.items ∙ ap (λ (js : List ℕ). js ++ c.loop.at ∷ []) now.0 ∙ sym next.0 ∙ ap (λ (k : ℕ). take k back) (sym (add-one c.loop.counter)),
        subst (λ (k : ℕ). IsTrail c.args.before.now (get_or c.args.before.now c.loop.at 0) (drop k back)) (sym (add-one c.loop.counter)) next.1,
      );
  len = omega (arith, c.push_reserved.ensures.len, c.loop.invariant.len);
  room = c.push_reserved.ensures.capacity ∙ c.loop.invariant.room;
}

pub returns-clause-back : goal.returns-clause-back
returns-clause-back c back t n = (c.loop.invariant.trail back t n).0 ∙ take_all c.loop.counter back (omega (arith, c.loop-test.false, n))
