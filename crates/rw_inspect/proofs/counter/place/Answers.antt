use Rattle.std.proofs.Common.{◌∙◌, ap, subst}
use Rattle.std.specs.FinMap.{insert}
use Rattle.std.proofs.Math.Facts.{to_z-of_z}
use Rattle.std.proofs.lemmas.Result.{on_ok_weaker}
use Rattle.rw_inspect.specs.inner.Counting.{JudgedAs}
use Rattle.rw_inspect.proofs.PlacedLemmas.{placed_filtered, placed_rising, placed_trouble}
use Rattle.rw_inspect.proofs.counter.place.Goals as goal

pub returns-in-InTrouble-clause-ok : goal.returns-in-InTrouble-clause-ok
returns-in-InTrouble-clause-ok c =
    on_ok_weaker c.push.result
    (λ pushed. record {
      placed = λ before word cached at.
          let judged = subst (JudgedAs before c.args.reference c.args.t) c.in-InTrouble.is (subst (λ z. JudgedAs before c.args.reference z c.judge.result) (to_z-of_z c.ranges.t) (c.judge.ensures.judged before cached)) in
          placed_trouble _ _ _ _ _ _ _ _ _ cached at judged.0 judged.1 pushed;
    })
    c.push.ensures.ok

pub returns-in-Filtered-clause-ok : goal.returns-in-Filtered-clause-ok
returns-in-Filtered-clause-ok c = record {
  placed = λ before word cached at.
      placed_filtered _ _ _ _ _ _ cached (subst (JudgedAs before c.args.reference c.args.t) c.in-Filtered.is (subst (λ z. JudgedAs before c.args.reference z c.judge.result) (to_z-of_z c.ranges.t) (c.judge.ensures.judged before cached)));
}

pub returns-in-Rising-clause-ok : goal.returns-in-Rising-clause-ok
returns-in-Rising-clause-ok c = record {
  placed = λ before word cached at.
      placed_rising _ _ _ _ _ _ _ _ cached (subst (JudgedAs before c.args.reference c.args.t) c.in-Rising.is (subst (λ z. JudgedAs before c.args.reference z c.judge.result) (to_z-of_z c.ranges.t) (c.judge.ensures.judged before cached)))
      (c.note.ensures ∙ ap (λ z. record c.args.cache.now { noted = insert c.args.cache.now.noted c.in-Rising.number z }) (to_z-of_z c.ranges.t));
}
