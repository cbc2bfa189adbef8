use Rattle.std.proofs.Common.{◌≡◌, length, arith, subst, sym, ap, ◌∙◌}
use Rattle.rw_head.specs.Lists.{with_samples}
use Rattle.rw_head.specs.Store.{held_series, HasNoEmptyList}
use Rattle.rw_head.proofs.PlaceLemmas.{are_within, are_lists, series-kept, kept_filled, length-with_samples}
use Rattle.rw_head.specs.inner.Forgetting.{AreWhole}
use Rattle.rw_head.proofs.table.Table.series.Goals as goal

pub new-requires : goal.new-requires
new-requires c = record {
  within = rw (c.as_slice.ensures.value, c.iter.ensures.rest) (are_within c.self.inside.places.tree c.self.inside.lists.items c.self.invariant.0.places c.iter.ensures.found);
  whole = subst AreWhole (sym c.as_slice.ensures.value) (c.self.invariant.1.whole (ap (λ s. s.forgets) c.self.view_is ∙ c.requires));
}

shown : (c : goal.After-new) → c.new.result ≡ with_samples c.self.inside.lists.items c.self.inside.places.tree.entries
shown c = c.new.ensures ∙ ap (λ ls. with_samples ls c.iter.result) c.as_slice.ensures.value ∙ ap (with_samples c.self.inside.lists.items) c.iter.ensures.rest

pub returns-clause-list : goal.returns-clause-list
returns-clause-list c =
    shown c ∙ series-kept c.self.inside.places.tree.entries c.self.inside.lists.items c.iter.ensures.ordered ∙ ap (λ s. held_series s.kept) c.self.view_is

pub returns-clause-lists : goal.returns-clause-lists
returns-clause-lists c =
    rw (shown c, ← c.self.view_is) (are_lists c.self.inside.places.tree c.self.inside.lists.items c.iter.ensures.found)

pub returns-clause-fits : goal.returns-clause-fits
returns-clause-fits c =
    omega (arith, ap length c.new.ensures, length-with_samples c.as_slice.result.now c.iter.result, ap length c.iter.ensures.rest, c.iter.ensures.fits)

pub returns-clause-filled : goal.returns-clause-filled
returns-clause-filled c = subst HasNoEmptyList (ap (λ s. s.kept) c.self.view_is) (kept_filled c.self.inside.places.tree.entries c.self.inside.lists.items)
