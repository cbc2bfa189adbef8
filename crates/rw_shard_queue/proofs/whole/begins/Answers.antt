use Rattle.std.proofs.Common.{◌∙◌, sym, ap, ◌++◌, List}
use Rattle.rw_plain_queue.specs.declared.item.Item.{Item}
use Rattle.rw_shard_queue.specs.declared.rule.Log.{Log}
use Rattle.rw_shard_queue.specs.Ends.{Feeding, Draining}
use Rattle.rw_shard_queue.specs.inner.Rule.{joined}
use Rattle.rw_shard_queue.proofs.Moves.{closes, compares, met, parts, split-on, split-handed}
use Rattle.rw_shard_queue.proofs.whole.begins.Goals as goal

pub absorb-requires-clause-rule : goal.absorb-requires-clause-rule
absorb-requires-clause-rule g c = closes _ _ _ _ c.feed.invariant.1 c.drain.invariant.2

pub learn_as-requires-clause-rule : goal.learn_as-requires-clause-rule
learn_as-requires-clause-rule g c = compares _ _ (met _ _ _ _ c.absorb.ensures.rule)

pub another-other-requires-clause-rule : goal.another-other-requires-clause-rule
another-other-requires-clause-rule g c = parts _ _ (met _ _ _ _ (c.learn_as.ensures.channel.2 ∙ c.absorb.ensures.rule))

pub returns-clause-begins : goal.returns-clause-begins
returns-clause-begins g c =
    let r = c.learn_as.ensures.rule in
    let a = c.absorb.ensures.rule in
    let e = ap (λ (l : Log). l.put) (sym a) ∙ r.1.0 ∙ ap (λ (l : Log). l.taken ++ joined r.0) a in
    let rest : List Item = (c.drain.inside.block.items ++ joined r.0) ++ c.feed.inside.block.items in
    (rest, ap (λ (f : Feeding). f.put) (sym c.feed.view_is) ∙ split-on _ _ _ c.feed.inside.block.items c.drain.inside.block.items (joined r.0) e c.drain.invariant.4 ∙ ap (λ (d : Draining). d.taken ++ rest) c.drain.view_is)

pub returns-clause-handed : goal.returns-clause-handed
returns-clause-handed g c =
    let r = c.learn_as.ensures.rule in
    let a = c.absorb.ensures.rule in
    let e = ap (λ (l : Log). l.put) (sym a) ∙ r.1.0 ∙ ap (λ (l : Log). l.taken ++ joined r.0) a in
    let rest : List Item = c.drain.inside.block.items ++ joined r.0 in (
      (rest, ap (λ (f : Feeding). f.handed) (sym c.feed.view_is) ∙ split-handed _ _ _ c.drain.inside.block.items (joined r.0) e c.drain.invariant.4 ∙ ap (λ (d : Draining). d.taken ++ rest) c.drain.view_is),
      (c.feed.inside.block.items, ap (λ (f : Feeding). f.put) (sym c.feed.view_is) ∙ ap (λ (f : Feeding). f.handed ++ c.feed.inside.block.items) c.feed.view_is),
    )
