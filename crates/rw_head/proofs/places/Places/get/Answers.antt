use Rattle.std.proofs.Common.{sym, ◌∙◌, ap, arith, below_more, get_or, length}
use Rattle.rw_types.specs.LabelOrder.{labels_eq}
use Rattle.rw_head.proofs.NameLemmas.{stands_here, stands_nowhere, differs}
use Rattle.rw_head.proofs.places.Places.get.Goals as goal

pub returns-then-eq : goal.returns-then-eq
returns-then-eq c =
    sym (stands_here c.args.self.now.tree c.args.self.now.names.items c.loop-place.place c.name-item.result c.args.labels.now c.args.self.now.named (omega (arith, c.loop-place-test.true, ap length c.deref-name-items.ensures.value)) (c.name-item.is ∙ ap (λ xs. get_or xs c.loop-place.place c.name-item.result) c.deref-name-items.ensures.value)
    (c.if-eq.ensures ∙ ap (λ x. labels_eq x c.args.labels.now) c.labels.ensures))

pub loop-place-preserved : goal.loop-place-preserved
loop-place-preserved c =
    below_more _ _ c.loop-place.invariant
    (differs c.args.self.now.names.items c.loop-place.place c.name-item.result c.args.labels.now (omega (arith, c.loop-place-test.true, ap length c.deref-name-items.ensures.value)) (c.name-item.is ∙ ap (λ xs. get_or xs c.loop-place.place c.name-item.result) c.deref-name-items.ensures.value)
    (c.if-eq.ensures ∙ ap (λ x. labels_eq x c.args.labels.now) c.labels.ensures))

pub returns : goal.returns
returns c =
    stands_nowhere c.args.self.now.tree c.args.self.now.names.items c.args.labels.now c.args.self.now.named
    (λ k lt. c.loop-place.invariant k (omega (arith, lt, c.loop-place-test.false, ap length c.deref-name-items.ensures.value)))
