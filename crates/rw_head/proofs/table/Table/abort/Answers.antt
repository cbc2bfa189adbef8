use Rattle.std.proofs.Common.{◌≡◌, ◌-◌, length, take, ap, subst, sym, arith, ◌∙◌}
use Rattle.std.proofs.lemmas.List.{length-take-le}
use Rattle.rw_head.proofs.PlacedLemmas.{settled_front}
use Rattle.rw_head.proofs.shared.StagingLemmas.{takes_out, Aborted, aborted_kept, aborted_staged, IsSound-aborted}
use Rattle.rw_head.specs.inner.Forgetting.{AreWhole}
use Rattle.rw_head.proofs.ForgettingLemmas.{AreWhole-take}
use Rattle.rw_head.proofs.table.Table.abort.Goals as goal

forgotten : (c : goal.After-self-1) → Aborted c.self.inside.places.tree c.truncate.new.self.tree c.self.inside.lists.items c.abort_all.new.lists.items c.truncate-2.new.self.items c.self.inside.fresh.items
forgotten c = record {
  out = takes_out c.self.inside.lists.items c.self.inside.places.tree c.truncate.new.self.tree c.self.inside.fresh.items _ c.self.invariant.0.brought (let few = c.self.invariant.0.brought.few in omega (arith, few, c.abort_all.ensures.len)) c.truncate.ensures.below;
  len = c.abort_all.ensures.len;
  settled = c.abort_all.ensures.staged;
  same = c.abort_all.ensures.kept;
  front =
      let left : c.len.result - c.len-2.result ≡ length c.abort_all.new.lists.items - length c.self.inside.fresh.items = omega arith in
      c.truncate-2.ensures.items ∙ ap (λ k. take k c.abort_all.new.lists.items) left;
}

pub invariant_of-self : goal.invariant_of-self
invariant_of-self c = (
  IsSound-aborted c.self.inside.places.tree c.truncate.new.self.tree c.self.inside.lists.items c.abort_all.new.lists.items c.truncate-2.new.self.items c.self.inside.touched.items c.clear.new.self.items
      c.self.inside.fresh.items c.clear-2.new.self.items c.self.inside.count c.self.inside.staged_count c.self.invariant.0 (forgotten c) c.clear.ensures.items c.clear-2.ensures.items,
  record {
    same = omega (arith, ap length c.truncate.ensures.names, length-take-le (c.len.result - c.len-2.result) c.self.inside.places.names.items (omega (arith, c.self.invariant.1.same, c.abort_all.ensures.len)), ap length c.truncate-2.ensures.items, length-take-le (c.len.result - c.len-2.result) c.abort_all.new.lists.items (omega arith), c.self.invariant.1.same, c.abort_all.ensures.len);
    whole = λ off. subst AreWhole (sym c.truncate-2.ensures.items) (AreWhole-take (c.len.result - c.len-2.result) c.abort_all.new.lists.items (λ n. c.abort_all.ensures.gone n ∙ c.self.invariant.1.whole off n));
  },
)

pub returns-clause-kept : goal.returns-clause-kept
returns-clause-kept c =
    aborted_kept c.self.inside.places.tree c.truncate.new.self.tree c.self.inside.lists.items c.abort_all.new.lists.items c.truncate-2.new.self.items c.self.inside.fresh.items c.self.invariant.0.places c.self.invariant.0.brought (forgotten c)
    ∙ ap (λ s. s.kept) c.self.view_is

pub returns-clause-staged : goal.returns-clause-staged
returns-clause-staged c =
    aborted_staged c.self.inside.places.tree c.truncate.new.self.tree c.self.inside.lists.items c.abort_all.new.lists.items c.truncate-2.new.self.items c.self.inside.fresh.items c.self.invariant.0.places c.self.invariant.0.brought (forgotten c)
    ∙ ap (λ s. s.kept) c.self.view_is

pub returns-clause-placed : goal.returns-clause-placed
returns-clause-placed c =
    settled_front c.self.inside.places.names.items c.self.inside.fresh.items c.truncate.new.self.names.items c.clear-2.new.self.items (c.len.result - c.len-2.result)
    (omega (arith, c.self.invariant.1.same, c.abort_all.ensures.len)) c.truncate.ensures.names c.clear-2.ensures.items
    ∙ ap (λ s. s.placed) c.self.view_is
